-- The field that is asked about: there is one, and its faults are those of its text.
use Rattle.std.proofs.Common.{◌≡◌, ◌≢◌, Bool, true, false, if◌then◌else◌, ℕ, ◌-◌, ◌≤◌, List, Some, None, Result, Ok, Err, refl, ap, sym, subst, ◌∙◌, rules}
use Rattle.std.specs.Prelude.{slice_get}
use Rattle.std.proofs.lemmas.Bool.{lt-ltb}
use Rattle.std.proofs.lemmas.Option.{same_Some, slice_get_cases}
use Rattle.lane_board.specs.Field.{Field}
use Rattle.fumen_digits.specs.declared.dialect.Dialect.{Dialect}
use Rattle.fumen_digits.specs.Framing.{digits_in}
use Rattle.fumen_digits.specs.declared.fault.FumenFault.{FumenFault}
use Rattle.fumen_pages.specs.declared.page.Page.{Page}
use Rattle.fumen_text.specs.Reading.{text_pages}
use Rattle.fumen_text.proofs.CallerLemmas.{read_from_text, text_from_read, one_list}
use Rattle.pc_faults.proofs.CallerLemmas.{none_first, none_last}
use Rattle.pc_settings.specs.Request.{FieldText, rows_text, fumen_text}
use Rattle.pc_source.specs.Faults.{asked_fault, cells_asked, cells_read, cells_shown, field_fault, page_fault, pages_fault, text_fault}
use Rattle.pc_source.specs.FieldText.{DashText, field_needs, is_dash, itself, of_source, page_cells, text_given, text_needs, IsPageField, IsFumenField, IsFieldOf}
use Rattle.pc_source.specs.Task.{is_source, nothing, source_bytes}

one_page_field : (pages : List Page) (number : ℕ) (F G : Field) → IsPageField pages number F → IsPageField pages number G → F ≡ G
one_page_field pages number F G one other = one.cells ∙ ap page_cells (same_Some one.page other.page (sym one.there ∙ other.there)) ∙ sym other.cells

one_fumen_field : (text : List ℕ) (number : ℕ) (F G : Field) → IsFumenField text number F → IsFumenField text number G → F ≡ G
one_fumen_field text number F G one other =
    let same = (one_list text one.dialect one.pages other.dialect other.pages one.reads other.reads).1 in
    one_page_field other.pages number F G (subst (λ pages. IsPageField pages number F) same one.field) other.field

-- the words and what `-` stands for determine the field
pub one_field : (field : FieldText) (number : ℕ) (meant : DashText) (F G : Field) → IsFieldOf field number meant F → IsFieldOf field number meant G → F ≡ G
one_field field number meant F G one other = search (rules, rows_text, fumen_text, one_fumen_field)

-- the cells of the field are those that faults speak of
pub field_cells : (field : FieldText) (number : ℕ) (meant : DashText) (F : Field) → IsFieldOf field number meant F → cells_asked field number meant ≡ F
field_cells (rows_text text) number meant F is = sym is
field_cells (fumen_text word) number meant F is = rw (read_from_text (text_given word meant) is.dialect is.pages is.reads, is.field.there) (sym is.field.cells)

-- a page that is there is a field
page_there : (pages : List Page) (number : ℕ) → 1 ≤ number → page_fault (Some number) pages ≡ None → IsPageField pages number (cells_shown (slice_get pages (number - 1)))
page_there pages number first none = search (rules, slice_get_cases, lt-ltb)

text_there : (text : List ℕ) (number : ℕ) (read : Result (Dialect × List Page) FumenFault) → 1 ≤ number → text_pages text ≡ read → pages_fault read ≡ None → asked_fault (Some number) read ≡ None
    → IsFumenField text number (cells_read number read)
text_there text number (Ok (dialect, pages)) first is reads none = search (rules, text_from_read, page_there)
text_there text number (Err fault) first is reads none = cc

asked_there : (number : ℕ) (text : List ℕ) → 1 ≤ number → text_fault (Some number) text ≡ None → IsFumenField text number (cells_read number (text_pages text))
unfolding text_fault
asked_there number text first none = search (rules, text_there, none_first, none_last)

-- a text with no fault gives a field
pub field_there : (field : FieldText) (number : ℕ) (meant : DashText) → 1 ≤ number → field_fault field number meant ≡ None → IsFieldOf field number meant (cells_asked field number meant)
field_there field number meant first none = search (rules, rows_text, fumen_text, asked_there)

-- a fumen text that stands among the words needs no source
text_not_source : (text : List ℕ) → is_source (text_needs text) ≡ false
text_not_source text = search rules

-- of the words that give a fumen text only `-` needs the source
pub dash_is_source : (word : List ℕ) → is_source (field_needs (fumen_text word)) ≡ is_dash word
dash_is_source word = by (is_dash word)
  where
    by : (dash : Bool) → is_source (if dash then source_bytes else text_needs word) ≡ dash
    by true = refl
    by false = text_not_source word

-- a fumen text with a prefix needs memory
pub prefix_needs : (word : List ℕ) (meant : DashText) → digits_in (text_given word meant) ≢ None → field_needs (fumen_text word) ≢ nothing
prefix_needs word (of_source bytes) has = search rules
prefix_needs word itself has = search rules
