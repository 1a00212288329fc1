-- Texts of many lines and the function that reads them agree, in the pages that are read and in the first fault.
use Rattle.std.proofs.Common.{◌≡◌, ℕ, suc, ◌+◌, ◌<◌, ◌≤◌, nat_lt, List, [], ◌∷◌, length, Result, Ok, Err, refl, ap, sym, subst, ◌∙◌, ◌⊎◌, inl, inr, ltb-true, ltb-false, lt-ltb, le-ltb, append-nil, arith, rules}
use Rattle.std.specs.Prelude.{IsOk}
use Rattle.std.proofs.lemmas.Bool.{cases_Bool}
use Rattle.fumen_pages.specs.declared.page.Page.{Page}
use Rattle.fumen_pages.specs.declared.list_fault.ListFault.{ListFault}
use Rattle.fumen_pages.specs.declared.list_fault.ListKind.{ListKind}
use Rattle.fumen_pages.specs.Lists.{most_pages}
use Rattle.page_list.specs.ListReading.{lines_of, first_line, numbered, numbered_page, pages_from, pages_in}
use Rattle.fumen_digits.specs.Reading.{◌>>=◌}
use Rattle.page_list.specs.LineSpelling.{SpellsPage, IsFirstLine, SpellsFirst, none, more, SpellsPages, IsFaultBehind, IsListFault, Spelled}
use Rattle.page_list.proofs.ListLemmas.{behind, from_start, none-left}
use Rattle.page_list.proofs.LineReadAsSpelled.{line_spelled, spelled_line_read, line_fault, faulty_line_read}
use Rattle.page_list.proofs.FirstLine.{first_line_read}
use Rattle.page_list.proofs.TextLines.{has_first, lines_at, no_lines}

abbrev Read : Type 0
Read = Result (List Page) ListFault

-- ---- one line

abbrev fault_at : ℕ → ListKind → ListFault
fault_at number kind = record { line = number; kind = kind }

fault_is : (number : ℕ) (kind : ListKind) (fault : ListFault) → fault.line ≡ number → fault.kind ≡ kind → fault_at number kind ≡ fault
fault_is number kind fault line is = ap (λ n. fault_at n kind) (sym line) ∙ ap (λ k. fault_at fault.line k) (sym is)

same_page : (one other : Page) → ◌≡◌ {A = Result Page ListFault} (Ok one) (Ok other) → one ≡ other
same_page one other e = cc

same_fault : (one other : ListFault) → ◌≡◌ {A = Result Page ListFault} (Err one) (Err other) → one ≡ other
same_fault one other e = cc

numbered_ok : (number : ℕ) (read : Result Page ListKind) (page : Page) → numbered number read ≡ Ok page → read ≡ Ok page
numbered_ok number read page is = search (rules, same_page)

-- the fault of a line
record IsNumbered (number : ℕ) (read : Result Page ListKind) (fault : ListFault) : Type 0 where
  kind : ListKind
  is : read ≡ Err kind
  made : fault_at number kind ≡ fault

numbered_err : (number : ℕ) (read : Result Page ListKind) (fault : ListFault) → numbered number read ≡ Err fault → IsNumbered number read fault
numbered_err number read fault is = search (rules, same_fault)

-- a page that was read as the line of a number
record IsPageOf (number : ℕ) (line : List ℕ) (page : Page) : Type 0 where
  few : number ≤ most_pages
  spelled : SpellsPage line page

page_is : (number : ℕ) (line : List ℕ) (page : Page) → numbered_page number line ≡ Ok page → IsPageOf number line page
unfolding numbered_page
page_is number line page is = search (rules, cases_Bool, nat_lt, ltb-false, line_spelled, numbered_ok)

page_read : (number : ℕ) (line : List ℕ) (page : Page) → number ≤ most_pages → SpellsPage line page → numbered_page number line ≡ Ok page
unfolding numbered_page
page_read number line page few s = rw (le-ltb most_pages number few, spelled_line_read line page s) refl

-- the fault of a line behind so many pages
record IsFaultOf (count : ℕ) (line : List ℕ) (fault : ListFault) : Type 0 where
  number : fault.line ≡ count + 1
  kind : IsFaultBehind count line fault.kind

faulty : (count : ℕ) (line : List ℕ) (fault : ListFault) → count ≤ most_pages → numbered_page (count + 1) line ≡ Err fault → IsFaultOf count line fault
unfolding numbered_page
faulty count line fault most is =
    search (rules, cases_Bool, nat_lt, ltb-true, same_fault, ltb-false, numbered_err, line_fault)

fault_read : (count : ℕ) (line : List ℕ) (fault : ListFault) → fault.line ≡ count + 1 → IsFaultBehind count line fault.kind → numbered_page (count + 1) line ≡ Err fault
unfolding numbered_page
fault_read count line fault number behind = search (rules, lt-ltb, fault_is, le-ltb, faulty_line_read)

-- ---- many lines

-- a page that was read, and what is read behind it
record Taken {A : Type 0} (read : Result A ListFault) (next : A → Read) (answer : Read) : Type 0 where
  value : A
  is : read ≡ Ok value
  gives : next value ≡ answer

taken : {A : Type 0} (read : Result A ListFault) (next : A → Read) (pages : List Page) → (read >>= next) ≡ Ok pages → Taken read next (Ok pages)
taken (Ok value) next pages is = record { value = value; is = refl; gives = is }
taken (Err fault) next pages is = cc

stops : {A : Type 0} (read : Result A ListFault) (next : A → Read) (fault : ListFault) → (read >>= next) ≡ Err fault → (read ≡ Err fault) ⊎ Taken read next (Err fault)
stops (Ok value) next fault is = inr (record { value = value; is = refl; gives = is })
stops (Err one) next fault is = search rules

same_pages : (one other : List Page) → ◌≡◌ {A = Read} (Ok one) (Ok other) → one ≡ other
same_pages one other e = cc

-- the pages that lines were read as
record AreSpelled (count : ℕ) (text : List ℕ) (pages : List Page) : Type 0 where
  most : count + length pages ≤ most_pages
  spelled : SpellsFirst text pages []

spelled_from : (lines : List (List ℕ)) (count : ℕ) (text : List ℕ) (pages : List Page) → count ≤ most_pages → lines_of text ≡ lines → pages_from (count + 1) lines ≡ Ok pages → AreSpelled count text pages
unfolding pages_from
spelled_from [] count text pages most whole is =
    subst (AreSpelled count text) (same_pages [] pages is) (subst (λ t. AreSpelled count t []) (sym (no_lines text whole)) (record { most = omega (arith, most); spelled = none }))
spelled_from (line ∷ lines) count text pages most whole is =
    let page = taken (numbered_page (count + 1) line) _ pages is in
    let one = page_is (count + 1) line page.value page.is in
    let others = taken (pages_from (count + 1 + 1) lines) _ pages page.gives in
    let first = has_first text line lines whole in
    let rest = spelled_from lines (count + 1) first.behind others.value one.few first.later others.is in
    subst (AreSpelled count text) (same_pages (page.value ∷ others.value) pages others.gives) (record { most = omega (arith, rest.most); spelled = more first.first one.spelled rest.spelled })

-- a fault that lines were read with
record HasFault (count : ℕ) (text : List ℕ) (fault : ListFault) : Type 0 where
  pages : List Page
  rest : List ℕ
  before : SpellsFirst text pages rest
  line : List ℕ
  behind : List ℕ
  first : IsFirstLine rest line behind
  is : IsFaultOf (count + length pages) line fault

fault_from : (lines : List (List ℕ)) (count : ℕ) (text : List ℕ) (fault : ListFault) → count ≤ most_pages → lines_of text ≡ lines → pages_from (count + 1) lines ≡ Err fault → HasFault count text fault
unfolding pages_from
fault_from [] count text fault most whole is = cc
fault_from (line ∷ lines) count text fault most whole is =
    let first = has_first text line lines whole in
    elim (stops (numbered_page (count + 1) line) _ fault is) [
      | inl failed ↦ record { pages = []; rest = text; before = none; line = line; behind = first.behind; first = first.first; is = subst (λ n. IsFaultOf n line fault) (none_so_far count) (faulty count line fault most failed) }
      | inr page ↦
          let one = page_is (count + 1) line page.value page.is in
          elim (stops (pages_from (count + 1 + 1) lines) _ fault page.gives) [
            | inl failed ↦
                let later = fault_from lines (count + 1) first.behind fault one.few first.later failed in
                record {
                  pages = page.value ∷ later.pages;
                  rest = later.rest;
                  before = more first.first one.spelled later.before;
                  line = later.line;
                  behind = later.behind;
                  first = later.first;
                  is = subst (λ n. IsFaultOf n later.line fault) (next count (length later.pages)) later.is;
                }
            | inr others ↦ no_fault (others.gives)
          ]
    ]
  where
    none_so_far : (count : ℕ) → count ≡ count + 0
    none_so_far count = omega arith

    next : (count size : ℕ) → count + 1 + size ≡ count + suc size
    next count size = omega arith

    no_fault : {pages : List Page} → ◌≡◌ {A = Read} (Ok pages) (Err fault) → HasFault count text fault
    no_fault e = cc

-- ---- lines that are spelled are read

in_front : (page : Page) (pages : List Page) (read : Read) → (behind pages read >>= (λ others. Ok (page ∷ others))) ≡ behind (page ∷ pages) read
in_front page pages read = search rules

-- pages are read up to what stands behind them
read_on : (text rest : List ℕ) (pages : List Page) (count : ℕ) → SpellsFirst text pages rest → count + length pages ≤ most_pages
    → pages_from (count + 1) (lines_of text) ≡ behind pages (pages_from (count + length pages + 1) (lines_of rest))
unfolding pages_from
read_on text rest [] count none few = search (rules, from_start)
read_on text rest (page ∷ pages) count (more {line = line} {behind = later} first s others) few =
    search (rules, (page_read (count + 1) line page), (lines_at text line later first), (read_on later rest pages (count + 1) others), (in_front page pages (pages_from (count + 1 + length pages + 1) (lines_of rest))), (behind (page ∷ pages)))

-- ---- the laws

from_zero : (n : ℕ) → 0 + n ≡ n
from_zero n = omega arith

pub pages_spelled : (text : List ℕ) (pages : List Page) → pages_in text ≡ Ok pages → SpellsPages text pages
pages_spelled text pages is = search (rules, (spelled_from (lines_of text) 0 text pages))

pub spelled_pages_read : (text : List ℕ) (pages : List Page) → SpellsPages text pages → pages_in text ≡ Ok pages
unfolding pages_from
spelled_pages_read text pages s = search (rules, (read_on text [] pages 0 s.spelled), (behind pages), none-left, (append-nil pages))

pub fault_spelled : (text : List ℕ) (fault : ListFault) → pages_in text ≡ Err fault → IsListFault text fault
fault_spelled text fault is = search (rules, (fault_from (lines_of text) 0 text fault), from_zero, behind)

pub spelled_fault_read : (text : List ℕ) (fault : ListFault) → IsListFault text fault → pages_in text ≡ Err fault
unfolding pages_from
spelled_fault_read text fault f =
    search (rules, (from_zero (length f.pages)), (fault_read (length f.pages) f.line fault f.number f.kind), (read_on text f.rest f.pages 0 f.before), (behind f.pages), (lines_at f.rest f.line f.behind f.first))

-- where the first line is that of a page, a fault is in a line behind it
pub later_fault : (text : List ℕ) (fault : ListFault) → IsListFault text fault → IsOk (numbered_page 1 (first_line text).0) → 1 < fault.line
later_fault text fault f read =
    let some = behind_first text f.rest f.pages f.line f.behind fault f.before f.first f.number f.kind read in
    omega (arith, f.number, some)
  where
    never : (read : Result Page ListFault) (found : ListFault) → read ≡ Err found → IsOk read → ⊥
    never (Ok page) found e ok = cc
    never (Err other) found e ok = cc

    behind_first : (text rest : List ℕ) (pages : List Page) (line later : List ℕ) (found : ListFault) → SpellsFirst text pages rest → IsFirstLine rest line later → found.line ≡ length pages + 1
        → IsFaultBehind (length pages) line found.kind → IsOk (numbered_page 1 (first_line text).0) → 0 < length pages
    behind_first text rest [] line later found none first number kind read =
        absurd (never (numbered_page 1 (first_line text).0) found (ap (λ (l : List ℕ × List ℕ). numbered_page 1 l.0) (first_line_read text line later first) ∙ fault_read 0 line found number kind) read)
    behind_first text rest (page ∷ pages) line later found before first number kind read = omega arith

-- ---- one answer

ok_or_err : (read : Read) → ((pages : List Page) × (read ≡ Ok pages)) ⊎ ((fault : ListFault) × (read ≡ Err fault))
ok_or_err (Ok pages) = inl (pages, refl)
ok_or_err (Err fault) = inr (fault, refl)

pub either : (text : List ℕ) → Spelled SpellsPages text ⊎ Spelled IsListFault text
either text = search (rules, (ok_or_err (pages_in text)), (pages_spelled text), (fault_spelled text))

pub not_both : (text : List ℕ) (pages : List Page) (fault : ListFault) → SpellsPages text pages → IsListFault text fault → ⊥
not_both text pages fault s f = search (rules, (spelled_pages_read text pages s), (spelled_fault_read text fault f))

pub one_page_list : (text : List ℕ) (one other : List Page) → SpellsPages text one → SpellsPages text other → one ≡ other
one_page_list text one other s t = same_pages one other (sym (spelled_pages_read text one s) ∙ spelled_pages_read text other t)

pub one_fault : (text : List ℕ) (one other : ListFault) → IsListFault text one → IsListFault text other → one ≡ other
one_fault text one other f g = search (rules, (spelled_fault_read text one f), (spelled_fault_read text other g))
