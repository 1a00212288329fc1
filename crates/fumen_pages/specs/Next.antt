-- The cells that a page leaves for the page after it.
use Rattle.std.specs.Prelude.{ℕ, zero, suc, ◌-◌, List, [], ◌∷◌, ◌++◌, length, take, drop, map, reverse, filter, fold, replicate, slice_set, Bool, true, false, not, ◌==◌, if◌then◌else◌, Option, Some, None}
use Rattle.std.specs.List.{list_all, flat_map}
use Rattle.fumen_digits.specs.declared.dialect.Dialect.{Dialect}
use Rattle.fumen_digits.specs.declared.dialect.Dialect.TheVariants.{V115}
use Rattle.fumen_digits.specs.Dialect.{page_row_count}
use Rattle.srs.specs.declared.placement.Placement.{Placement}
use Rattle.srs.specs.Piece.{piece_code}
use Rattle.srs.specs.Cells.{cells_of}
use Rattle.fumen_pages.specs.declared.page.Page.{Page}
use Rattle.fumen_pages.specs.Cells.{missing_count, place_of, shown}

-- a page's rows from the top one down to row 0, and the garbage row under them
pub record Rows : Type 0 where
  pub field : List (List ℕ)
  pub garbage : List ℕ

-- the first rows of ten cells, this many
unfoldable pub rows_in : ℕ → List ℕ → List (List ℕ)
rows_in zero cells = []
rows_in (suc count) cells = take 10 cells ∷ rows_in count (drop 10 cells)

unfoldable pub rows_of : Dialect → List ℕ → Rows
rows_of dialect cells =
    record { field = rows_in (page_row_count dialect) (shown dialect cells); garbage = drop 230 cells }

-- the 240 cells of these rows
unfoldable pub cells_of_rows : Dialect → Rows → List ℕ
cells_of_rows dialect rows = replicate (missing_count dialect) 0 ++ (flat_map (λ row. row) rows.field ++ rows.garbage)

abbrev pub empty_row : List ℕ
empty_row = replicate 10 0

-- the cells of a placement take a value, whatever stood there
unfoldable pub marked : Placement → ℕ → List ℕ → List ℕ
marked placement value cells =
    fold (λ before cell. slice_set before (place_of V115 cell) value) cells (cells_of placement)

-- the cells of the operation take the colour of its piece
unfoldable pub operation_filled : Option Placement → List ℕ → List ℕ
operation_filled None cells = cells
operation_filled (Some p) cells = marked p (piece_code p.piece) cells

-- a row is full where none of its cells is empty
abbrev pub is_full_page_row : List ℕ → Bool
is_full_page_row row = list_all (λ cell. not (cell == 0)) row

-- the rows without those that are full, under as many empty ones
unfoldable pub without_full : List (List ℕ) → List (List ℕ)
without_full rows =
    let kept = filter (λ row. not (is_full_page_row row)) rows in
    replicate (length rows - length kept) empty_row ++ kept

abbrev pub cleared : Rows → Rows
cleared rows = record { field = without_full rows.field; garbage = rows.garbage }

-- with a rise the top row goes, and the garbage row comes in as row 0
abbrev pub risen : Bool → Rows → Rows
risen true rows = record { field = drop 1 rows.field ++ rows.garbage ∷ []; garbage = empty_row }
risen false rows = rows

-- with a mirror each row is reversed, but not the garbage row
abbrev pub mirrored_rows : Bool → Rows → Rows
mirrored_rows true rows = record { field = map reverse rows.field; garbage = rows.garbage }
mirrored_rows false rows = rows

-- where the page locks: fill, removal of full rows, rise and mirror, in this order
unfoldable pub next : Dialect → Page → List ℕ
next dialect page =
    if page.lock
    then (
    let before = rows_of dialect (operation_filled page.operation page.cells) in
    cells_of_rows dialect (mirrored_rows page.mirror (risen page.rise (cleared before)))
    )
    else page.cells
