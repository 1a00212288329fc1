-- Cells in the rows of a dialect.
use Rattle.std.proofs.Common.{◌≡◌, ℕ, ◌<◌, ◌≤◌, true, false, pos, negsuc, List, [], ◌∷◌, refl, subst, ◌⊎◌, rules}
use Rattle.std.specs.List.{list_all}
use Rattle.std.proofs.lemmas.Bool.{ltb-true, leb-true, le-leb, and_parts, and_from, false_from_ne_true}
use Rattle.std.proofs.lemmas.List.Folds.{list_all-map}
use Rattle.fumen_digits.specs.declared.dialect.Dialect.{Dialect}
use Rattle.fumen_digits.specs.Dialect.{page_row_count}
use Rattle.srs.specs.declared.piece.Piece.{Piece}
use Rattle.srs.specs.declared.rotation.Rotation.{Rotation}
use Rattle.srs.specs.declared.placement.Placement.{Placement}
use Rattle.srs.specs.Cells.{Cell, moved, shape, cells_at, cells_of, in_well, is_inside_of}
use Rattle.srs.specs.SameCells.{is_among}
use Rattle.srs.proofs.CallerLemmas.{is_among-all, moved-origin, origin, pivot_in_shape}
use Rattle.fumen_pages.specs.Action.{in_rows, is_inside_in}

pub page_row_count-most : (dialect : Dialect) → page_row_count dialect ≤ 23
page_row_count-most dialect = search rules

-- where a cell in the rows lies
pub record LiesIn (dialect : Dialect) (cell : Cell) : Type 0 where
  pub x : ℕ
  pub y : ℕ
  pub is : cell ≡ (pos x, pos y)
  pub column : x ≤ 9
  pub row : y < page_row_count dialect

pub in_rows-place : (dialect : Dialect) (cell : Cell) → in_rows dialect cell ≡ true → LiesIn dialect cell
in_rows-place dialect (pos x, pos y) h = search (rules, and_parts, leb-true, ltb-true)
in_rows-place dialect (pos x, negsuc y) h = absurd cc
in_rows-place dialect (negsuc x, pos y) h = absurd cc
in_rows-place dialect (negsuc x, negsuc y) h = absurd cc

-- each cell of a piece that is inside
pub cell_in_rows : (dialect : Dialect) (piece : Piece) (rotation : Rotation) (pivot move : Cell) → list_all (in_rows dialect) (cells_at piece rotation pivot) ≡ true → is_among (shape piece rotation) move ≡ true → in_rows dialect (moved pivot move) ≡ true
cell_in_rows dialect piece rotation pivot move inside has = search (rules, is_among-all, list_all-map)

pub cell_inside : (dialect : Dialect) (piece : Piece) (rotation : Rotation) (pivot move : Cell) → list_all (in_rows dialect) (cells_at piece rotation pivot) ≡ true → is_among (shape piece rotation) move ≡ true → LiesIn dialect (moved pivot move)
cell_inside dialect piece rotation pivot move inside has = search (rules, in_rows-place, cell_in_rows)

-- so does its pivot
pub pivot_inside_in : (dialect : Dialect) (piece : Piece) (rotation : Rotation) (pivot : Cell) → list_all (in_rows dialect) (cells_at piece rotation pivot) ≡ true → LiesIn dialect pivot
pivot_inside_in dialect piece rotation pivot inside =
    subst (λ (c : Cell). LiesIn dialect c) (moved-origin pivot) (cell_inside dialect piece rotation pivot origin inside (pivot_in_shape piece rotation))

-- a pivot far away is that of no placement inside
pub far_outside : (dialect : Dialect) (p : Placement) → (31 < p.x) ⊎ (31 < p.y) → false ≡ is_inside_in dialect p
far_outside dialect p far = search (rules, false_from_ne_true, pivot_inside_in, page_row_count-most)

-- ---- in the well of 23 rows

in_rows-in_well : (dialect : Dialect) (cell : Cell) → in_rows dialect cell ≡ true → in_well cell ≡ true
in_rows-in_well dialect cell h = search (rules, in_rows-place, page_row_count-most, and_from, le-leb)

all_in_well : (dialect : Dialect) (cells : List Cell) → list_all (in_rows dialect) cells ≡ true → list_all in_well cells ≡ true
all_in_well dialect [] all = refl
all_in_well dialect (c ∷ cells) all = search (rules, and_parts, and_from, in_rows-in_well, (all_in_well dialect cells))

pub inside_well : (dialect : Dialect) (p : Placement) → is_inside_in dialect p ≡ true → is_inside_of p ≡ true
inside_well dialect p = all_in_well dialect (cells_of p)
