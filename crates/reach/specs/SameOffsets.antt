-- Tables that have the same offsets for a piece.
use Rattle.std.specs.Prelude.{◌≡◌, ℕ, ◌≤◌}
use Rattle.srs.specs.declared.piece.Piece.{Piece}
use Rattle.srs.specs.declared.rotation.Rotation.{Rotation}
use Rattle.srs.specs.Kick.{Table, offset_in}

-- so in one rotation, for the tests 1 to 5
abbrev pub AgreeIn : Table → Table → Piece → Rotation → Type 0
AgreeIn table other piece rotation =
    (test : ℕ) → 1 ≤ test → test ≤ 5 → offset_in table piece rotation test ≡ offset_in other piece rotation test

pub record HaveSameOffsets (table other : Table) (piece : Piece) : Type 0 where
  pub each : (rotation : Rotation) → AgreeIn table other piece rotation
