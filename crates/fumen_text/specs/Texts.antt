-- The texts that are lists of pages.
use Rattle.std.specs.Prelude.{◌≡◌, ℕ, ◌≤◌, List, length, replicate, Some}
use Rattle.fumen_digits.specs.declared.dialect.Dialect.{Dialect}
use Rattle.fumen_digits.specs.Framing.{digits_in}
use Rattle.fumen_pages.specs.declared.page.Page.{Page}
use Rattle.fumen_pages.specs.Lists.{most_pages}
use Rattle.fumen_text.specs.Spells.{SpellsFumen}

-- the cells before the first page
abbrev pub empty_page : List ℕ
empty_page = replicate 240 0

-- a text reads as these pages, in a dialect
pub record ReadsAs (text : List ℕ) (d : Dialect) (pages : List Page) : Type 0 where
  pub ds : List ℕ
  pub framed : digits_in text ≡ Some (d, ds)
  pub spelled : SpellsFumen d empty_page 0 pages ds
  pub few : length pages ≤ most_pages
