-- Lines that are read one after the other.
use Rattle.std.proofs.Common.{◌≡◌, ℕ, ◌+◌, ◌<◌, ◌==◌, Bool, false, List, [], ◌∷◌, ◌++◌, length, length-drop, take, drop, refl, ap, append_assoc, append-nil, lt-ltb, le-ltb, ne_eqb, if◌then◌else◌, arith, rules}
use Rattle.std.specs.Prelude.{IsOk, ◌⊎◌, nat_lt, Result, Ok, Err}
use Rattle.std.specs.List.{position_or_len}
use Rattle.std.proofs.lemmas.Bool.{cases_lt}
use Rattle.std.proofs.lemmas.List.Splits.{slice_split_none, slice_split_first, length-slice_split}
use Rattle.std.proofs.lemmas.List.Sums.{fails_before_first}
use Rattle.pc_outside.specs.declared.answers.Refused.{Refused}
use Rattle.pc_outside.specs.declared.answers.Refused.TheVariants as refused
use Rattle.fumen_pages.specs.declared.page.Page.{Page}
use Rattle.fumen_pages.specs.declared.list_fault.ListFault.{ListFault}
use Rattle.page_list.specs.CellsReading.{cut_at}
use Rattle.page_list.specs.ListReading.{without_return, whole_lines, lines_of, first_line, numbered_page, pages_from, HasFirstPage}
use Rattle.fumen_digits.specs.Reading.{◌>>=◌}
use Rattle.fumen_digits.specs.ReadResults.{Gives}

abbrev is_newline : ℕ → Bool
is_newline byte = byte == 10

-- the place of the first newline, or the text's length
abbrev place : List ℕ → ℕ
place text = position_or_len is_newline text

whole-more : (line : List ℕ) (parts : List (List ℕ)) → 0 < length parts → whole_lines (line ∷ parts) ≡ without_return line ∷ whole_lines parts
unfolding whole_lines
whole-more line parts some = search rules

whole-last : (last : List ℕ) → 0 < length last → whole_lines (last ∷ []) ≡ last ∷ []
unfolding whole_lines
whole-last last some = ap (λ b. if b then [] else last ∷ []) (ne_eqb (length last) 0 (λ is. omega arith))

pub none-left : lines_of [] ≡ []
unfolding whole_lines
none-left = refl

cut-found : (text : List ℕ) → place text < length text → first_line text ≡ (without_return (take (place text) text), drop (place text + 1) text)
unfolding first_line cut_at
cut-found text found = rw (lt-ltb (place text) (length text) found) refl

cut-missing : (text : List ℕ) → nat_lt (place text) (length text) ≡ false → first_line text ≡ (text, [])
unfolding first_line cut_at
cut-missing text missing = rw (missing) refl

-- the first line, and those behind it
pub lines-more : (text : List ℕ) → 0 < length text → lines_of text ≡ (first_line text).0 ∷ lines_of (first_line text).1
lines-more text some =
    search (rules, cases_lt, length-slice_split, slice_split_first, whole-more, cut-found, fails_before_first, slice_split_none, whole-last, cut-missing, le-ltb, none-left)

-- these pages stand in front
abbrev pub behind : List Page → Result (List Page) ListFault → Result (List Page) ListFault
behind done read = read >>= (λ pages. Ok (done ++ pages))

behind-more : (done : List Page) (page : Page) (read : Result (List Page) ListFault) → behind done (read >>= (λ pages. Ok (page ∷ pages))) ≡ behind (done ++ page ∷ []) read
behind-more done page read = search (rules, append_assoc)

step : (done : List Page) (number : ℕ) (line : List ℕ) (lines : List (List ℕ)) (page : Page) → numbered_page number line ≡ Ok page
    → behind done (pages_from number (line ∷ lines)) ≡ behind (done ++ page ∷ []) (pages_from (number + 1) lines)
unfolding pages_from
step done number line lines page is = rw (is) (behind-more done page (pages_from (number + 1) lines))

stop : (done : List Page) (number : ℕ) (line : List ℕ) (lines : List (List ℕ)) (fault : ListFault) → numbered_page number line ≡ Err fault
    → behind done (pages_from number (line ∷ lines)) ≡ Err fault
unfolding pages_from
stop done number line lines fault is = rw (is) refl

-- one more page is read
pub page_read : (done : List Page) (number next : ℕ) (text line rest : List ℕ) (page : Page) (all : Result (List Page) ListFault) → 0 < length text → first_line text ≡ (line, rest)
    → numbered_page number line ≡ Ok page → next ≡ number + 1 → behind done (pages_from number (lines_of text)) ≡ all → behind (done ++ page ∷ []) (pages_from next (lines_of rest)) ≡ all
page_read done number next text line rest page all some cut is following so_far = search (rules, lines-more, step)

-- a line has a fault
pub page_missing : (done : List Page) (number : ℕ) (text line rest : List ℕ) (fault : ListFault) (all : Result (List Page) ListFault) → 0 < length text → first_line text ≡ (line, rest)
    → numbered_page number line ≡ Err fault → behind done (pages_from number (lines_of text)) ≡ all → all ≡ Err fault
page_missing done number text line rest fault all some cut is so_far = search (rules, lines-more, stop)

-- a line is refused
pub page_refused : {X : Type 0} (view : X → List Page) (refusal : Refused ListFault) (done : List Page) (number : ℕ) (text line rest : List ℕ) (all : Result (List Page) ListFault)
    → 0 < length text → first_line text ≡ (line, rest) → Gives {X = Page} {Y = Page} (λ page. page) (λ fault. fault) (Err refusal) (numbered_page number line)
    → behind done (pages_from number (lines_of text)) ≡ all → Gives view (λ fault. fault) (Err refusal) all
page_refused view (refused.Fault fault) done number text line rest all some cut given so_far = page_missing done number text line rest fault all some cut given so_far
page_refused view refused.NoMemory done number text line rest all some cut given so_far = tt

from-none : (done : List Page) (number : ℕ) → behind done (pages_from number []) ≡ Ok done
unfolding pages_from
from-none done number = ap Ok (append-nil done)

-- the text ends
pub pages_read : (done : List Page) (number : ℕ) (text : List ℕ) (all : Result (List Page) ListFault) → text ≡ []
    → behind done (pages_from number (lines_of text)) ≡ all → all ≡ Ok done
pages_read done number text all none so_far = search (rules, none-left, from-none)

-- no page stands in front
pub from_start : (read : Result (List Page) ListFault) → behind [] read ≡ read
from_start read = search rules

-- what is behind a line is shorter
pub behind_shorter : (text line rest : List ℕ) → 0 < length text → first_line text ≡ (line, rest) → length rest < length text
behind_shorter text line rest some cut = search (rules, cases_lt, cut-found, cut-missing, le-ltb, length-drop)

-- no page is read yet, or the first line was read as one
abbrev pub HasBegun : List ℕ → List Page → List ℕ → Type 0
HasBegun text done rest = ((length done ≡ 0) × (rest ≡ text)) ⊎ HasFirstPage text

-- where a line is that of a page, the first one is
pub first_page : (text rest line later : List ℕ) (done : List Page) (number : ℕ) → number ≡ length done + 1 → 0 < length rest → first_line rest ≡ (line, later) → IsOk (numbered_page number line)
    → HasBegun text done rest → HasFirstPage text
first_page text rest line later done number count some cut read begins = search rules
