-- Sets of states as a board of N lanes for each rotation, and when keys lead out of them no more.
use Rattle.std.specs.Prelude.{◌≡◌, ℕ, true, ℤ, pos, ◌+ℤ◌}
use Rattle.lane_board.specs.Field.{Field, empty_field, union}
use Rattle.srs.specs.declared.piece.Piece.{Piece}
use Rattle.srs.specs.declared.rotation.Rotation.{Rotation}
use Rattle.srs.specs.declared.placement.Placement.{Placement}
use Rattle.srs.specs.Canonical.{canonical_rotation, canonical_move}
use Rattle.srs.specs.Rotation.{clockwise_of, anticlockwise_of}
use Rattle.place_sets.specs.Shifts.{sideways, lower}
use Rattle.moves.specs.Lanes.{lane}
use Rattle.low_flood.specs.LaneTurns.{arrivals}
use Rattle.low_flood.specs.SkyBoard.{sky_board}

-- the boards of the rotations
abbrev pub Lanes : Type 0
Lanes = Rotation → Field

-- the column of a lane state
abbrev pub state_column : Placement → ℤ
state_column state = pos state.x +ℤ (canonical_move state.piece state.rotation).0

-- the lane state of this state is held
pub record IsInLanes (piece : Piece) (S : Lanes) (state : Placement) : Type 0 where
  pub kind : state.piece ≡ piece
  pub x : ℕ
  pub column : state_column state ≡ pos x
  pub y : ℕ
  pub at : lane state ≡ pos y
  pub held : S state.rotation x y ≡ true

-- single moves and turns lead to no free lane state that is missing, and none of the sky is missing
pub record IsLanesClosed (piece : Piece) (N : ℕ) (free S : Lanes) : Type 0 where
  pub beside : (rotation : Rotation) (x y : ℕ) → union (sideways N (S rotation)) (lower N (S rotation)) x y ≡ true
      → free rotation x y ≡ true → S rotation x y ≡ true
  pub clockwise : (rotation : Rotation) (x y : ℕ)
      → arrivals piece rotation (clockwise_of rotation) N (free (clockwise_of rotation)) (S rotation) empty_field
      x y ≡ true → S (clockwise_of rotation) x y ≡ true
  pub anti : (rotation : Rotation) (x y : ℕ)
      → arrivals piece rotation (anticlockwise_of rotation) N (free (anticlockwise_of rotation)) (S rotation)
      empty_field x y ≡ true → S (anticlockwise_of rotation) x y ≡ true
  pub sky : (rotation : Rotation) (x y : ℕ) → sky_board piece (canonical_rotation piece rotation) N (free rotation) x y
      ≡ true → S rotation x y ≡ true
