-- How large a page is in each dialect of fumen.
use Rattle.std.specs.Prelude.{ℕ, ◌+◌, ◌*◌}
use Rattle.fumen_digits.specs.declared.dialect.Dialect.{Dialect}
use Rattle.fumen_digits.specs.declared.dialect.Dialect.TheVariants.{V110, V115}

-- the rows of a page, the garbage row not among them
abbrev pub page_row_count : Dialect → ℕ
page_row_count V110 = 21
page_row_count V115 = 23

-- the cells of a page: ten in each row, and ten in the garbage row
abbrev pub page_cell_count : Dialect → ℕ
page_cell_count dialect = 10 * page_row_count dialect + 10
