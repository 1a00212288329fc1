-- A board for each rotation.
use Rattle.std.proofs.Common.{rules}
use Rattle.low_flood.specs.SoftLanes.{free_boards}
use Rattle.place_sets.specs.States.{states_of}
use Rattle.place_sets.proofs.CallerLemmas.{same_states}
use Rattle.low_flood.proofs.soft.free_boards.Goals as goal

pub returns : goal.returns
unfolding states_of free_boards
returns g c = search (rules, same_states)
