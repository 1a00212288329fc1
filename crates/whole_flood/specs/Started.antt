-- Where a piece appears.
use Rattle.lane_board.specs.Field.{empty_field, intersection, with_cell}
use Rattle.srs.specs.declared.rotation.Rotation.TheVariants.{Spawn}
use Rattle.place_sets.specs.States.{States, states_with, no_states}

-- the spawn, where it is free
unfoldable pub started : States → States
started free = states_with no_states Spawn (intersection (with_cell empty_field 4 20) (free Spawn))
