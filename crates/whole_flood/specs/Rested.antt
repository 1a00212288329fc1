-- Where the states of a set come to rest.
use Rattle.std.specs.Prelude.{◌≡◌, ℕ, pos}
use Rattle.lane_board.specs.Field.{Field, difference, moved_within}
use Rattle.srs.specs.declared.rotation.Rotation.{Rotation}
use Rattle.place_sets.specs.declared.spreading.Shifts.TheVariants.{Down}
use Rattle.place_sets.specs.Shifts.{IsSpread}
use Rattle.place_sets.specs.States.{States}

-- the pivots spread down, and of these the ones with no free pivot below
pub record IsRested (N : ℕ) (free S result : Field) : Type 0 where
  pub fallen : Field
  pub falls : IsSpread Down N free S fallen
  pub rests : result ≡ difference fallen (moved_within free N (pos 0) (pos 1))

-- so in each rotation
pub record AreRested (N : ℕ) (free S result : States) : Type 0 where
  pub each : (rotation : Rotation) → IsRested N (free rotation) (S rotation) (result rotation)
