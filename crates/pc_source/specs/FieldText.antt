-- The field that is asked about: rows that a text writes, or a page of a fumen text.
use Rattle.std.specs.Prelude.{◌≡◌, ◌≢◌, ℕ, ◌-◌, Bool, not, ◌&&◌, ◌==◌, if◌then◌else◌, List, codes, slice_get, slice_index, None, Some, pos}
use Rattle.std.specs.Option.{option_map_or}
use Rattle.std.specs.Str.{bytes_eq}
use Rattle.lane_board.specs.Field.{Field, rows_below}
use Rattle.well.specs.Rows.{written_cells}
use Rattle.fumen_digits.specs.declared.dialect.Dialect.{Dialect}
use Rattle.fumen_pages.specs.declared.page.Page.{Page}
use Rattle.fumen_pages.specs.Cells.{place_of}
use Rattle.fumen_digits.specs.declared.dialect.Dialect.TheVariants.{V115}
use Rattle.fumen_digits.specs.Framing.{digits_in}
use Rattle.fumen_text.specs.Texts.{ReadsAs}
use Rattle.pc_source.specs.Task.{Needs, nothing, memory, source_bytes}
use Rattle.pc_settings.specs.Request.{FieldText, rows_text, fumen_text}

abbrev pub is_dash : List ℕ → Bool
is_dash word = bytes_eq word (codes "-")

-- what the fumen text `-` stands for: the text of the source, or itself where the source has something else
pub data DashText : Type 0 where
  of_source : List ℕ → DashText
  itself : DashText

-- the text that a word gives
abbrev pub text_given : List ℕ → DashText → List ℕ
text_given word (of_source bytes) = if is_dash word then bytes else word
text_given word itself = word

-- the cells of rows 0 to 22 that aren't empty, of whatever colour; the garbage row is no part of them
unfoldable pub page_cells : Page → Field
page_cells page x y = rows_below 23 x y && not (slice_index page.cells (place_of V115 (pos x, pos y)) == 0)

-- the field of the page with this number, counted from 1
pub record IsPageField (pages : List Page) (number : ℕ) (F : Field) : Type 0 where
  pub page : Page
  pub there : slice_get pages (number - 1) ≡ Some page
  pub cells : F ≡ page_cells page

-- the field of the page with this number of a fumen text
pub record IsFumenField (text : List ℕ) (number : ℕ) (F : Field) : Type 0 where
  pub dialect : Dialect
  pub pages : List Page
  pub reads : ReadsAs text dialect pages
  pub field : IsPageField pages number F

-- the field that is asked about, with the number of the page where it is a fumen's
abbrev pub IsFieldOf : FieldText → ℕ → DashText → Field → Type 0
IsFieldOf (rows_text text) number meant F = F ≡ written_cells text
IsFieldOf (fumen_text word) number meant F = IsFumenField (text_given word meant) number F

-- what is needed to know the pages of a fumen text: nothing where no prefix stands in it, and else memory
abbrev pub text_needs : List ℕ → Needs
text_needs text = option_map_or (λ _. memory) (digits_in text) nothing

-- what is needed to know the field, where `-` stands for the source's text: that too is read in memory
abbrev pub field_needs : FieldText → Needs
field_needs (rows_text text) = nothing
field_needs (fumen_text word) = if is_dash word then source_bytes else text_needs word

-- a prefix stands in the fumen text of the field
abbrev pub HasPrefix : FieldText → DashText → Type 0
HasPrefix (rows_text text) meant = ⊥
HasPrefix (fumen_text word) meant = digits_in (text_given word meant) ≢ None
