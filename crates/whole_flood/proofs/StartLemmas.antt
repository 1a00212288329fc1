-- Where the flood begins.
use Rattle.std.proofs.Common.{◌≡◌, rules}
use Rattle.lane_board.specs.Field.{Field, empty_field, intersection, with_cell}
use Rattle.srs.specs.declared.rotation.Rotation.TheVariants.{Spawn}
use Rattle.whole_flood.specs.Started.{started}
use Rattle.place_sets.specs.States.{States, states_with, no_states}

pub started_by : (free S E : States) (A W Z G : Field) → S ≡ states_with E Spawn A → E ≡ no_states → A ≡ intersection W G → W ≡ with_cell Z 4 20 → Z ≡ empty_field → G ≡ free Spawn → S ≡ started free
unfolding started
started_by free S E A W Z G s e a w z g = search rules
