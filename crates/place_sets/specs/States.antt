-- Sets of states of one piece: a field of pivots for each rotation.
use Rattle.std.specs.Prelude.{ℕ, Bool, true, ◌≡◌, ◌<◌, ◌↔◌, ◌==◌, if◌then◌else◌}
use Rattle.lane_board.specs.Field.{Field, empty_field, has_cell}
use Rattle.lane_board.specs.Board.{field_of}
use Rattle.srs.specs.declared.piece.Piece.{Piece}
use Rattle.srs.specs.declared.rotation.Rotation.{Rotation}
use Rattle.srs.specs.declared.rotation.Rotation.TheVariants.{Spawn, Right, Reverse, Left}
use Rattle.srs.specs.declared.placement.Placement.{Placement}
use Rattle.srs.specs.Cells.{Cell}
use Rattle.srs.specs.Rotation.{rotation_index}
use Rattle.place_sets.specs.declared.pivots.Pivots.{Pivots}

-- the pivots of the states in each rotation
abbrev pub States : Type 0
States = Rotation → Field

-- the set without a state
abbrev pub no_states : States
no_states rotation = empty_field

-- whether the set has the state
unfoldable pub has_state : States → Placement → Bool
has_state S state = S state.rotation state.x state.y

-- whether the set has the state of a rotation with its pivot at a cell
unfoldable pub has_pivot : States → Rotation → Cell → Bool
has_pivot S rotation pivot = has_cell (S rotation) pivot.0 pivot.1

-- the set with the pivots of one rotation changed
unfoldable pub states_with : States → Rotation → Field → States
states_with S rotation F r = if rotation_index r == rotation_index rotation then F else S r

-- the states whose pivots four boards hold
unfoldable pub states_of : {N : ℕ} → Pivots N → States
states_of pivots Spawn = field_of pivots.spawn
states_of pivots Right = field_of pivots.right
states_of pivots Reverse = field_of pivots.reverse
states_of pivots Left = field_of pivots.left

-- of the states of the piece S has those of which P holds, and no others
pub record HasExactly (P : Placement → Type 0) (piece : Piece) (S : States) : Type 0 where
  pub exact : (state : Placement) → state.piece ≡ piece → (has_state S state ≡ true) ↔ P state

-- P holds of the state, whose pivot lies below this row
pub record IsUnder (row : ℕ) (P : Placement → Type 0) (state : Placement) : Type 0 where
  pub below : state.y < row
  pub is : P state

-- S has all that R has
pub record Includes (S R : States) : Type 0 where
  pub has : (state : Placement) → has_state R state ≡ true → has_state S state ≡ true
