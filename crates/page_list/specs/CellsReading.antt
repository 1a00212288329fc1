-- The first field of a page's line: the cells.
use Rattle.std.specs.Prelude.{ℕ, ◌+◌, ◌-◌, nat_le, List, [], ◌∷◌, ◌++◌, length, take, drop, replicate, position, ◌==◌, if◌then◌else◌, Option, Some, None, option_and_then}
use Rattle.fumen_pages.specs.Letters.{colour_letters}

-- the colour of a letter
abbrev pub colour_in : ℕ → Option ℕ
colour_in letter = position (λ c. c == letter) colour_letters

-- the text before the first such byte, and the text behind it
unfoldable pub cut_at : ℕ → List ℕ → Option (List ℕ × List ℕ)
cut_at byte text = option_and_then (λ at. Some (take at text, drop (at + 1) text)) (position (λ c. c == byte) text)

-- these colours stand in front
abbrev pub with_front : List ℕ → Option (List ℕ) → Option (List ℕ)
with_front front behind = option_and_then (λ colours. Some (front ++ colours)) behind

-- the colours of rows of ten letters, with a `/` between each two, behind so many letters of the first row
unfoldable pub rows_at : ℕ → List ℕ → Option (List ℕ)
rows_at column [] = if column == 10 then Some [] else None
rows_at column (byte ∷ rest) =
    if column == 10 then (if byte == 47 then rows_at 0 rest else None)
    else option_and_then (λ colour. with_front (colour ∷ []) (rows_at (column + 1) rest)) (colour_in byte)

-- the colours of up to 23 rows, which are 252 letters with the `/` between them
unfoldable pub rows_colours : List ℕ → Option (List ℕ)
rows_colours text = if length text == 0 then Some [] else if nat_le (length text) 252 then rows_at 0 text else None

-- the colours of the garbage row: nothing where it is empty, or one row
unfoldable pub garbage_colours : List ℕ → Option (List ℕ)
garbage_colours text =
    if length text == 0 then Some (replicate 10 0) else if nat_le (length text) 10 then rows_at 0 text else None

-- the 240 cells: empty rows at the top, the rows that are written, and the garbage row
abbrev pub cells_with_rows : List ℕ → List ℕ → List ℕ
cells_with_rows rows garbage = replicate (230 - length rows) 0 ++ (rows ++ garbage)

-- the rows, a bar, and the garbage row
unfoldable pub cells_in : List ℕ → Option (List ℕ)
cells_in text =
    option_and_then (λ cut. option_and_then (λ rows. option_and_then (λ garbage.
    Some (cells_with_rows rows garbage)) (garbage_colours cut.1)) (rows_colours cut.0)) (cut_at 124 text)
