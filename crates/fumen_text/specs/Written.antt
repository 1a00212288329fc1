-- The text that is written for a list of pages, and why none is.
use Rattle.std.specs.Prelude.{◌≡◌, ℕ, zero, suc, ◌+◌, ◌-◌, ◌≤◌, All, List, [], ◌∷◌, ◌++◌, length, take, min, Bool, IsTrue, not, nat_eq, nat_le, nat_lt, ◌==◌, true, if◌then◌else◌, Option, Some, None, Result, Ok, Err}
use Rattle.std.specs.List.{list_all}
use Rattle.std.specs.Option.{ForSome, option_or, option_map_or}
use Rattle.std.specs.Cmp.Lexicographic.{pointwise}
use Rattle.pc_outside.specs.declared.answers.Refused.{Refused}
use Rattle.pc_outside.specs.declared.answers.Refused.TheVariants as refused
use Rattle.fumen_digits.specs.declared.dialect.Dialect.{Dialect}
use Rattle.fumen_digits.specs.Number.{digits}
use Rattle.fumen_digits.specs.Framing.{broken}
use Rattle.fumen_comment.specs.Escape.{escaped, HasUnits}
use Rattle.fumen_comment.specs.Part.{comment_digits}
use Rattle.fumen_pages.specs.declared.page.Page.{Page}
use Rattle.fumen_pages.specs.Cells.{missing_count}
use Rattle.fumen_pages.specs.Action.{is_inside_in}
use Rattle.fumen_pages.specs.Next.{next}
use Rattle.fumen_pages.specs.Record.{unchanged}
use Rattle.fumen_pages.specs.Sound.{IsSound}
use Rattle.fumen_pages.specs.Written.{action_number_of, written_record}
use Rattle.fumen_pages.specs.declared.encode_fault.EncodeFault.{EncodeFault}
use Rattle.fumen_pages.specs.declared.encode_fault.EncodeFault.TheVariants as fault
use Rattle.fumen_pages.specs.Lists.{most_pages}
use Rattle.fumen_text.specs.Texts.{empty_page}

-- ---- the digits

-- whether a page has the cells that are left before it
abbrev pub keeps : List ℕ → Page → Bool
keeps before page = pointwise nat_eq page.cells before

-- how many of the first pages, one after the other, have the cells that are left before them
unfoldable pub unchanged_pages : Dialect → List ℕ → List Page → ℕ
unchanged_pages d before [] = 0
unchanged_pages d before (page ∷ pages) = if keeps before page then suc (unchanged_pages d (next d page) pages) else 0

-- How many pages are promised behind a page. The digit of an unchanged page promises the unchanged pages that
-- directly follow it, at most 63.
unfoldable pub promised_behind : Dialect → List ℕ → ℕ → Page → List Page → ℕ
promised_behind d before zero page pages =
    if keeps before page then min 63 (unchanged_pages d (next d page) pages) else 0
promised_behind d before (suc left) page pages = left

-- the digits before the tail of a page, where so many pages are promised behind it
unfoldable pub cells_digits : Dialect → List ℕ → ℕ → Page → ℕ → List ℕ
cells_digits d before zero page after =
    if keeps before page then unchanged d ++ digits 1 after else written_record d before page.cells
cells_digits d before (suc left) page after = []

-- the digits of the comment, if there is one
abbrev pub part_digits : Option (List ℕ) → List ℕ
part_digits None = []
part_digits (Some units) = comment_digits (escaped units)

-- the digits of the action and of the comment
abbrev pub tail_digits : Dialect → Page → List ℕ
tail_digits d page = digits 3 (action_number_of d page) ++ part_digits page.comment

-- the digits of some pages, where these cells are left before them and so many pages are promised
unfoldable pub pages_digits : Dialect → List ℕ → ℕ → List Page → List ℕ
pages_digits d before promised [] = []
pages_digits d before promised (page ∷ pages) =
    cells_digits d before promised page (promised_behind d before promised page pages)
    ++ (tail_digits d page ++ pages_digits d (next d page) (promised_behind d before promised page pages) pages)

-- the text of some pages
abbrev pub written : Dialect → List Page → List ℕ
written d pages = broken d (pages_digits d empty_page 0 pages)

-- ---- the faults

-- whether the escaped comment, if there is one, has at most 4,095 characters
abbrev pub is_short : Option (List ℕ) → Bool
is_short comment = option_map_or (λ units. nat_le (length (escaped units)) 4095) comment true

-- the first fault of a page, counted from 1
unfoldable pub page_encode_fault : Dialect → ℕ → Page → Option EncodeFault
page_encode_fault d number page =
    if not (list_all (λ cell. nat_le cell 8) page.cells) then Some (fault.BadCell number)
    else (if not (list_all (λ cell. cell == 0) (take (missing_count d) page.cells)) then Some (fault.RowTooHigh number)
    else (if not (option_map_or (is_inside_in d) page.operation true) then Some (fault.PieceOutside number)
    else (if not (is_short page.comment) then Some (fault.CommentTooLong number) else None)))

-- the first fault of some pages, the first of which has this number
unfoldable pub pages_encode_fault : Dialect → ℕ → List Page → Option EncodeFault
pages_encode_fault d number [] = None
pages_encode_fault d number (page ∷ pages) =
    option_or (page_encode_fault d number page) (pages_encode_fault d (number + 1) pages)

-- the first fault of a list of pages
abbrev pub list_encode_fault : Dialect → List Page → Option EncodeFault
list_encode_fault d pages =
    if nat_lt most_pages (length pages) then Some fault.TooManyPages else pages_encode_fault d 1 pages

-- a comment that needs no escaping to be known as short: a unit is escaped by at most six characters
abbrev pub HasFewUnits : Page → Type 0
HasFewUnits page = ForSome page.comment (λ units. length units ≤ 682)

-- the pages before this number, counted from 1, have only such comments
abbrev pub AreFewBefore : List Page → ℕ → Type 0
AreFewBefore pages number = All HasFewUnits (take (number - 1) pages)

-- the fault of some pages that is found before any comment is escaped
abbrev pub IsFoundFirst : List Page → EncodeFault → Type 0
IsFoundFirst pages fault.TooManyPages = Unit {0}
IsFoundFirst pages (fault.BadCell number) = AreFewBefore pages number
IsFoundFirst pages (fault.RowTooHigh number) = AreFewBefore pages number
IsFoundFirst pages (fault.PieceOutside number) = AreFewBefore pages number
IsFoundFirst pages (fault.CommentTooLong number) = ⊥

-- A refusal is this fault, and there is none where something else is answered. Want of memory may come at any time.
abbrev pub IsRefusedBy : {X : Type 0} → Result X (Refused EncodeFault) → Option EncodeFault → Type 0
IsRefusedBy (Ok x) found = found ≡ None
IsRefusedBy (Err (refused.Fault f)) found = found ≡ Some f
IsRefusedBy (Err refused.NoMemory) found = Unit {0}

-- what the types of a page's fields say: 240 cells, and units of 16 bits
pub record HasTypes (page : Page) : Type 0 where
  pub size : length page.cells ≡ 240
  pub units : HasUnits page.comment

-- a page that is written without a fault
pub record IsWritable (d : Dialect) (page : Page) : Type 0 where
  pub sound : IsSound d page
  pub units : HasUnits page.comment
  pub short : IsTrue (is_short page.comment)
