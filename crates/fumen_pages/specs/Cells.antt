-- The cells of a page: 240 in both dialects, row by row from the top row down, each from left to right, the garbage row
-- last.
use Rattle.std.specs.Prelude.{◌≡◌, ℕ, ◌+◌, ◌-◌, ◌*◌, ◌≤◌, pos, List, length, take, drop, replicate, All}
use Rattle.fumen_digits.specs.declared.dialect.Dialect.{Dialect}
use Rattle.fumen_digits.specs.Dialect.{page_row_count, page_cell_count}
use Rattle.srs.specs.Cells.{Cell}

-- how many cells stand first that belong to rows which the dialect hasn't
abbrev pub missing_count : Dialect → ℕ
missing_count dialect = 240 - page_cell_count dialect

-- the cells of the dialect's own rows and of the garbage row
abbrev pub shown : Dialect → List ℕ → List ℕ
shown dialect cells = drop (missing_count dialect) cells

-- the index of a cell among those of the dialect's rows; in the larger one, V115, that is its index among a page's
-- cells
abbrev pub place_of : Dialect → Cell → ℕ
place_of dialect (pos x, pos y) = (page_row_count dialect - 1 - y) * 10 + x
place_of dialect other = 0

-- 0 is empty, 1 to 7 are the codes of the pieces, and 8 is grey
abbrev pub IsColour : ℕ → Type 0
IsColour cell = cell ≤ 8

-- cells that a page of the dialect may have
pub record AreCells (dialect : Dialect) (cells : List ℕ) : Type 0 where
  pub size : length cells ≡ 240
  pub colours : All IsColour cells
  pub missing : take (missing_count dialect) cells ≡ replicate (missing_count dialect) 0
