-- A state comes to rest: it is moved down as far as it stays free.
use Rattle.std.specs.Prelude.{◌≡◌, ℕ, zero, suc, ◌+◌, ◌≤◌, true, false, pos, ◌-ℤ◌, Some, if◌then◌else◌}
use Rattle.lane_board.specs.Field.{Field}
use Rattle.srs.specs.declared.piece.Piece.{Piece}
use Rattle.srs.specs.declared.rotation.Rotation.{Rotation}
use Rattle.srs.specs.declared.placement.Placement.{Placement}
use Rattle.srs.specs.Cells.{Cell}
use Rattle.well.specs.Free.{is_free_at}
use Rattle.moves.specs.Step.{state_at}

-- the cell so many rows below the pivot
abbrev pub lowered : Placement → ℕ → Cell
lowered state rows = (pos state.x, pos state.y -ℤ pos rows)

-- rest is the state moved down by the greatest number of rows such that moved down by each number up to it the state
-- is free
pub record IsRest (F : Field) (state rest : Placement) : Type 0 where
  pub rows : ℕ
  pub free : (k : ℕ) → k ≤ rows → is_free_at F state.piece state.rotation (lowered state k) ≡ true
  pub blocked : is_free_at F state.piece state.rotation (lowered state (rows + 1)) ≡ false
  pub rests : state_at state.piece state.rotation (lowered state rows) ≡ Some rest

-- the rest as a function: a state falls by one row after another while the next is free
unfoldable pub rest_from : Field → Piece → Rotation → ℕ → ℕ → Placement
rest_from F piece rotation x zero = record { piece = piece; rotation = rotation; x = x; y = 0 }
rest_from F piece rotation x (suc y) =
    if is_free_at F piece rotation (pos x, pos y) then rest_from F piece rotation x y
    else record { piece = piece; rotation = rotation; x = x; y = suc y }

abbrev pub rest_of : Field → Placement → Placement
rest_of F state = rest_from F state.piece state.rotation state.x state.y
