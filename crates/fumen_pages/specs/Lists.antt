-- Lists of pages.
use Rattle.std.specs.Prelude.{ℕ}

-- the most pages of one list
abbrev pub most_pages : ℕ
most_pages = 10000
