-- What `decode`, `encode` and `show` write.
use Rattle.std.specs.Prelude.{◌≡◌, ℕ, ◌+◌, ◌-◌, List, [], ◌∷◌, ◌++◌, Option, Some, None, slice_get}
use Rattle.std.specs.List.{flat_map}
use Rattle.fumen_digits.specs.declared.dialect.Dialect.{Dialect}
use Rattle.fumen_pages.specs.declared.page.Page.{Page}
use Rattle.fumen_text.specs.Texts.{ReadsAs}
use Rattle.fumen_text.specs.Written.{written}
use Rattle.page_list.specs.LineSpelling.{SpellsPages}
use Rattle.page_list.specs.PrintedLine.{page_form}
use Rattle.page_show.specs.Page.{shown_page}

-- the lines of the pages that the source reads as
pub record IsDecodeOutput (bytes output : List ℕ) : Type 0 where
  pub dialect : Dialect
  pub pages : List Page
  pub reads : ReadsAs bytes dialect pages
  pub lines : output ≡ flat_map page_form pages

-- pages as they are shown, one after the other, where the first has this number
unfoldable pub shown_from : ℕ → List Page → List ℕ
shown_from number [] = []
shown_from number (page ∷ pages) = shown_page number page ++ shown_from (number + 1) pages

-- all pages as they are shown, or the one with the number that is asked for
abbrev pub IsShown : Option ℕ → List Page → List ℕ → Type 0
IsShown None pages output = output ≡ shown_from 1 pages
IsShown (Some asked) pages output = (page : Page) × (slice_get pages (asked - 1) ≡ Some page)
    × (output ≡ shown_page asked page)

-- the pages that the source reads as, as they are shown
pub record IsShowOutput (asked : Option ℕ) (bytes output : List ℕ) : Type 0 where
  pub dialect : Dialect
  pub pages : List Page
  pub reads : ReadsAs bytes dialect pages
  pub shown : IsShown asked pages output

-- the fumen text of the pages that the source spells, and a newline
pub record IsEncodeOutput (dialect : Dialect) (bytes output : List ℕ) : Type 0 where
  pub pages : List Page
  pub spelled : SpellsPages bytes pages
  pub text : output ≡ written dialect pages ++ 10 ∷ []
