-- The first state of a set from a rotation, row and column on: by rotation, then row, then column.
use Rattle.std.specs.Prelude.{◌≡◌, ℕ, ◌+◌, ◌*◌, ◌≤◌, true, Option, Some, None}
use Rattle.srs.specs.declared.piece.Piece.{Piece}
use Rattle.srs.specs.declared.placement.Placement.{Placement}
use Rattle.srs.specs.Rotation.{rotation_index}
use Rattle.place_sets.specs.States.{States, has_state}

-- a number that rises with the rotation, then with the row, then with the column, of which both are below 256
abbrev pub rising_number : ℕ → ℕ → ℕ → ℕ
rising_number rotation y x = rotation * 65536 + (y * 256 + x)

abbrev pub state_number : Placement → ℕ
state_number state = rising_number (rotation_index state.rotation) state.y state.x

pub record IsFirstState (S : States) (piece : Piece) (from : ℕ) (state : Placement) : Type 0 where
  pub kind : state.piece ≡ piece
  pub held : has_state S state ≡ true
  pub after : from ≤ state_number state
  pub first : (other : Placement) → from ≤ state_number other → has_state S other ≡ true
      → state_number state ≤ state_number other

pub record NoState (S : States) (from : ℕ) : Type 0 where
  pub none : (other : Placement) → from ≤ state_number other → has_state S other ≡ true → ⊥

abbrev pub IsStateFrom : States → Piece → ℕ → Option Placement → Type 0
IsStateFrom S piece from None = NoState S from
IsStateFrom S piece from (Some state) = IsFirstState S piece from state
