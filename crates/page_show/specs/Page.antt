-- A page as it is shown.
use Rattle.std.specs.Prelude.{ℕ, ◌+◌, List, [], ◌∷◌, ◌++◌, codes, Option, Some, None}
use Rattle.std.specs.List.{flat_map}
use Rattle.line_writing.specs.Count.{count_form}
use Rattle.srs.specs.declared.placement.Placement.{Placement}
use Rattle.srs.specs.Piece.{piece_letter}
use Rattle.fumen_pages.specs.declared.page.Page.{Page}
use Rattle.fumen_pages.specs.Next.{marked}
use Rattle.fumen_pages.specs.Letters.{letters_of, shown_rows, garbage_row}

-- the small letter of the piece where the operation has a cell
abbrev pub with_operation : Option Placement → List ℕ → List ℕ
with_operation None letters = letters
with_operation (Some placement) letters = marked placement (piece_letter placement.piece + 32) letters

-- a row and a newline
abbrev pub row_line : List ℕ → List ℕ
row_line row = row ++ 10 ∷ []

-- the rows from the highest one that isn't blank down to row 0, then the garbage row
abbrev pub rows_lines : List ℕ → List ℕ
rows_lines letters = flat_map row_line (shown_rows letters) ++ row_line (garbage_row letters)

-- the number of a page, and its rows
unfoldable pub shown_page : ℕ → Page → List ℕ
shown_page number page = count_form (codes "page ") number ++ rows_lines (with_operation page.operation (letters_of page.cells))
