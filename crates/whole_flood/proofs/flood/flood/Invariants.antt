-- The states of `done` were settled, and each round fewer are missing in it.
use Rattle.srs.specs.Rules.{table_of}
use Rattle.place_sets.specs.States.{states_of}
use Rattle.place_sets.proofs.CallerLemmas.{missing}
use Rattle.whole_flood.proofs.FloodLemmas.{Progress}
use Rattle.whole_flood.proofs.flood.flood.Given as goal

abbrev pub invariant-rounds : goal.invariant-rounds
invariant-rounds g l =
    Progress (record { table = table_of l.rules; piece = l.piece; mode = l.mode; free = states_of l.free }) (states_of l.start) (states_of l.done) (states_of l.reached)

abbrev pub decreases-rounds : goal.decreases-rounds
decreases-rounds g l = missing g.row.N (states_of l.done)
