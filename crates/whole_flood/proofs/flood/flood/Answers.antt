-- A rotation more is settled; where none is left, the flood is whole.
use Rattle.std.proofs.Common.{rules}
use Rattle.place_sets.specs.States.{states_of}
use Rattle.place_sets.proofs.CallerLemmas.{states_within}
use Rattle.whole_flood.proofs.FloodLemmas.{begins_by, goes_on_by, falls_by, ends}
use Rattle.whole_flood.proofs.flood.flood.Goals as goal

pub rounds-init : goal.rounds-init
rounds-init g c = begins_by _ _ _ c.empty-done.ensures

pub rounds-preserved : goal.rounds-preserved
rounds-preserved g c = search (rules, goes_on_by)

pub rounds-smaller : goal.rounds-smaller
rounds-smaller g c = search (rules, falls_by, states_within)

pub returns : goal.returns
returns g c = ends _ (states_of c.args.start.now) (states_of c.rounds.done) (states_of c.rounds.reached) c.rounds.invariant c.in_default.ensures
