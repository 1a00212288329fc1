-- The letters of a page's cells, and its rows.
use Rattle.std.specs.Prelude.{ℕ, List, map, take, drop, Bool, ◌==◌, slice_index, codes}
use Rattle.std.specs.List.{list_all, prefix_len}
use Rattle.fumen_pages.specs.Next.{rows_in}

-- the letters of the colours: `_` for an empty cell, the letters of the pieces by their codes, and `X` for grey
abbrev pub colour_letters : List ℕ
colour_letters = codes "_ILOZTJSX"

-- the letter of a colour
unfoldable pub colour_letter : ℕ → ℕ
colour_letter colour = slice_index colour_letters colour

-- the letters of a page's cells, in the order of the cells
abbrev pub letters_of : List ℕ → List ℕ
letters_of cells = map colour_letter cells

-- a row has nothing but `_`
unfoldable pub is_blank : List ℕ → Bool
is_blank row = list_all (λ letter. letter == 95) row

-- the rows from the highest one that isn't blank down
abbrev pub from_first_shown : List (List ℕ) → List (List ℕ)
from_first_shown rows = drop (prefix_len is_blank rows) rows

-- the rows 22 to 0 that are written
unfoldable pub shown_rows : List ℕ → List (List ℕ)
shown_rows letters = from_first_shown (rows_in 23 letters)

-- the letters of the garbage row, under row 0
abbrev pub garbage_row : List ℕ → List ℕ
garbage_row letters = take 10 (drop 230 letters)
