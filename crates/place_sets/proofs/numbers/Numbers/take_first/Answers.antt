-- The first word in use has the least number, and loses that bit.
use Rattle.std.proofs.Common.{sym, rules}
use Rattle.std.proofs.lemmas.Bool.{both_ways}
use Rattle.std.proofs.Math.Bool.{and-true}
use Rattle.lane_board.proofs.CallerLemmas.{has_bit-zero}
use Rattle.place_sets.specs.Numbers.{has_number}
use Rattle.place_sets.proofs.NumberLemmas.{without_number}
use Rattle.place_sets.proofs.WordsInUse.{empty_unless, first_in_use, no_number_in_use}
use Rattle.place_sets.proofs.numbers.Numbers.take_first.Goals as goal

pub returns-in-None-clause-first : goal.returns-in-None-clause-first
returns-in-None-clause-first c = no_number_in_use c.args.self.now c.in-None.ensures

pub returns-in-Some-clause-first : goal.returns-in-Some-clause-first
returns-in-Some-clause-first c = search (rules, (first_in_use c.args.self.now c.in-Some.at c.lowest_bit.result))

pub returns-in-Some-clause-rest : goal.returns-in-Some-clause-rest
returns-in-Some-clause-rest c = search (rules, without_number)

pub invariant_of-self-clause-few : goal.invariant_of-self-clause-few
invariant_of-self-clause-few c = λ w small has. absurd (both_ways _ (has_bit-zero w) has)

pub invariant_of-self-clause-none_else : goal.invariant_of-self-clause-none_else
invariant_of-self-clause-none_else c = λ w small none. empty_unless c.args.self.now w small (c.in-None.ensures.none w small)

pub returns-in-None-clause-rest : goal.returns-in-None-clause-rest
unfolding has_number
returns-in-None-clause-rest c = λ n small. sym (and-true _)
