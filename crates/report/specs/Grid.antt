-- A sequence as a grid: its line, and then the field before each placement with the placement in it.
use Rattle.std.specs.Prelude.{ℕ, zero, suc, ◌-◌, pos, if◌then◌else◌, List, [], ◌∷◌, ◌++◌, map}
use Rattle.lane_board.specs.Field.{Field}
use Rattle.lane_board.specs.FullRows.{columns}
use Rattle.srs.specs.declared.placement.Placement.{Placement}
use Rattle.srs.specs.Cells.{cells_of}
use Rattle.srs.specs.Piece.{piece_letter}
use Rattle.srs.specs.SameCells.{is_among}
use Rattle.well.specs.Lock.{locked, rows_removed}
use Rattle.report.specs.Forms.{KeysOf, line_form}

-- the letter of a cell: that of the piece where the placement has the cell, `X` where the field before it has it, and
-- else `_`
abbrev pub grid_letter : Field → Placement → ℕ → ℕ → ℕ
grid_letter F placement y x =
    if is_among (cells_of placement) (pos x, pos y) then piece_letter placement.piece else (if F x y then 88 else 95)

-- a row, from left to right, and a newline
abbrev pub grid_row : Field → Placement → ℕ → List ℕ
grid_row F placement y = map (grid_letter F placement y) columns ++ 10 ∷ []

-- the rows below a height, the top one first
unfoldable pub grid_rows : Field → Placement → ℕ → List ℕ
grid_rows F placement zero = []
grid_rows F placement (suc y) = grid_row F placement y ++ grid_rows F placement y

-- for each placement the rows that are left before it, and an empty line
unfoldable pub grid_pictures : Field → ℕ → List Placement → List ℕ
grid_pictures F rows [] = []
grid_pictures F rows (placement ∷ rest) =
    (grid_rows F placement rows ++ 10 ∷ [])
    ++ grid_pictures (locked F placement) (rows - rows_removed F placement) rest

-- the grid of a sequence that is played from a field on, of which so many rows are to be removed
unfoldable pub grid_form : KeysOf → Field → ℕ → List Placement → List ℕ
grid_form keys F rows sequence = line_form keys F sequence ++ grid_pictures F rows sequence
