-- The lowest of the words that are left.
use Rattle.std.proofs.Common.{ap, ◌∙◌, arith, rules}
use Rattle.lane_board.specs.Lanes.{has_bit}
use Rattle.lane_board.proofs.CallerLemmas.{has_bit-zero}
use Rattle.place_sets.proofs.WordsInUse.{still_among, still_empty}
use Rattle.place_sets.proofs.numbers.Numbers.first_word.Goals as goal

pub words-preserved : goal.words-preserved
words-preserved c = search (rules, still_among, still_empty)

pub returns : goal.returns
returns c = record { none = λ w small has. c.words.invariant.1 w (omega (arith, small)) has (ap (λ left. has_bit left w) c.words-test.false ∙ has_bit-zero w) }
