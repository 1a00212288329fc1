-- What is known of a free placement: it is inside, and its pivot is an open cell.
use Rattle.std.proofs.Common.{◌≡◌, ℕ, ◌≤◌, true, false, not, pos, List, [], ◌∷◌, refl, sym, rules}
use Rattle.std.specs.List.{list_all}
use Rattle.std.proofs.lemmas.Bool.{and_parts, and_from, false≢true, false_from_ne_true, le-leb}
use Rattle.lane_board.specs.Field.{Field}
use Rattle.srs.specs.declared.piece.Piece.{Piece}
use Rattle.srs.specs.declared.rotation.Rotation.{Rotation}
use Rattle.srs.specs.declared.placement.Placement.{Placement}
use Rattle.srs.specs.Cells.{Cell, cells_at, in_well, is_inside_of, HasPivotInWell}
use Rattle.srs.specs.SameCells.{is_among}
use Rattle.srs.proofs.CallerLemmas.{less, origin, is_among-moved, is_among-all, pivot_in_shape, LiesAt, in_well-place, pivot_inside}
use Rattle.well.specs.Free.{is_open, is_free_at, is_free}

-- an open cell lies in the well
pub open_in_well : (F : Field) (cell : Cell) → is_open F cell ≡ true → in_well cell ≡ true
unfolding is_open
open_in_well F cell opened = search (rules, and_parts, false≢true)

all_in_well : (F : Field) (cells : List Cell) → list_all (is_open F) cells ≡ true → list_all in_well cells ≡ true
all_in_well F [] opened = refl
all_in_well F (c ∷ cs) opened = search (rules, and_parts, and_from, open_in_well, (all_in_well F cs))

-- a free placement is inside
pub free_inside : (F : Field) (s : Placement) → is_free F s ≡ true → is_inside_of s ≡ true
unfolding is_free_at
free_inside F s free = all_in_well F _ free

less_self : (c : Cell) → less c c ≡ origin
unfolding less origin
less_self c = search rules

-- the pivot is one of the cells
pub has_pivot : (piece : Piece) (rotation : Rotation) (pivot : Cell) → is_among (cells_at piece rotation pivot) pivot ≡ true
has_pivot piece rotation pivot = search (rules, is_among-moved, less_self, pivot_in_shape)

-- so the pivot of a free piece is open, and lies in the well
pub free_pivot_open : (F : Field) (piece : Piece) (rotation : Rotation) (pivot : Cell) → is_free_at F piece rotation pivot ≡ true → is_open F pivot ≡ true
unfolding is_free_at
free_pivot_open F piece rotation pivot free = is_among-all (is_open F) (cells_at piece rotation pivot) pivot free (has_pivot piece rotation pivot)

pub free_pivot : (F : Field) (piece : Piece) (rotation : Rotation) (pivot : Cell) → is_free_at F piece rotation pivot ≡ true → LiesAt pivot
free_pivot F piece rotation pivot free = in_well-place pivot (open_in_well F pivot (free_pivot_open F piece rotation pivot free))

pub free_pivot_inside : (F : Field) (s : Placement) → is_free F s ≡ true → HasPivotInWell s
free_pivot_inside F s free = pivot_inside s (free_inside F s free)

-- a cell that is not in the well is not open
pub closed : (F : Field) (cell : Cell) → (LiesAt cell → ⊥) → false ≡ is_open F cell
closed F cell outside = sym (false_from_ne_true _ (λ opened. outside (in_well-place cell (open_in_well F cell opened))))

-- a cell of the well is open where it is not filled
pub open_at : (F : Field) (cell : Cell) (column row : ℕ) → cell ≡ (pos column, pos row) → column ≤ 9 → row ≤ 22 → not (F column row) ≡ is_open F cell
unfolding is_open
open_at F cell column row e left low = search (rules, and_from, le-leb)
