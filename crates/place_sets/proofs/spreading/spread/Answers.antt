-- One round more, and fewer pivots are missing after it.
use Rattle.std.proofs.Common.{suc, refl, ap, ◌∙◌, rules}
use Rattle.std.proofs.lemmas.Bool.{both_ways}
use Rattle.lane_board.specs.Board.{field_of}
use Rattle.lane_board.proofs.CallerLemmas.{field_of-within}
use Rattle.place_sets.specs.Shifts.{widened, widened_by}
use Rattle.place_sets.proofs.SpreadLemmas.{widened-fewer}
use Rattle.place_sets.proofs.spreading.spread.Goals as goal

pub rounds-init : goal.rounds-init
unfolding widened_by
rounds-init g c = (0, refl)

pub rounds-preserved : goal.rounds-preserved
unfolding widened_by
rounds-preserved g c = (suc c.rounds.invariant.0, c.widened-wider.ensures ∙ ap (widened c.args.shifts g.row.N (field_of c.args.free.now)) c.rounds.invariant.1)

pub rounds-smaller : goal.rounds-smaller
rounds-smaller g c = search (rules, widened-fewer, field_of-within, both_ways)

pub returns-then-equal : goal.returns-then-equal
returns-then-equal g c = search rules
