-- Pages without a fault can be written, and what is written reads as them.
use Rattle.std.proofs.Common.{◌≡◌, ℕ, ◌+◌, ◌*◌, ◌<◌, ◌≤◌, Bool, true, cond, not, eqb, leb, ltb, List, [], ◌∷◌, length, take, replicate, drop, Option, Some, None, Err, get_or, refl, ap, ◌∙◌, arith, rules}
use Rattle.std.specs.Prelude.{All}
use Rattle.std.specs.List.{AllByRecursion, list_all}
use Rattle.std.specs.Option.{ForSome, option_or, option_map_or}
use Rattle.std.proofs.lemmas.Bool.{and_parts, eqb-true, cases_lt, lt-ltb, le-ltb, le-leb, leb-true}
use Rattle.std.proofs.lemmas.List.{length-append, length-take, drop_more, drop_all, get_or_default}
use Rattle.pc_outside.specs.declared.answers.Refused.{Refused}
use Rattle.std.proofs.lemmas.List.Elements.{recursion_from_All}
use Rattle.std.proofs.lemmas.List.Sums.{AllPass-from_list_all}
use Rattle.fumen_digits.specs.declared.dialect.Dialect.{Dialect}
use Rattle.fumen_digits.proofs.CallerLemmas.{digits_in-broken}
use Rattle.fumen_comment.specs.Escape.{escaped, escaped_unit}
use Rattle.fumen_pages.specs.declared.page.Page.{Page}
use Rattle.fumen_pages.specs.Cells.{IsColour, missing_count}
use Rattle.fumen_pages.specs.Action.{is_inside_in}
use Rattle.fumen_pages.specs.declared.encode_fault.EncodeFault.{EncodeFault}
use Rattle.fumen_pages.specs.Lists.{most_pages}
use Rattle.fumen_text.specs.Texts.{ReadsAs, empty_page}
use Rattle.fumen_text.specs.Written.{IsRefusedBy, HasTypes, IsWritable, is_short, list_encode_fault, page_encode_fault, pages_digits, pages_encode_fault, written}
use Rattle.fumen_text.proofs.TextReadAsSpelled.{empty_sound}
use Rattle.fumen_text.proofs.WrittenIsSpelled.{pages_are_digits, pages_spell}
use Rattle.pc_outside.specs.declared.answers.Refused.TheVariants as refused
use Rattle.fumen_pages.specs.declared.encode_fault.EncodeFault.TheVariants as fault

-- no fault: the test holds, and there is none behind it
passes : (b : Bool) (f : EncodeFault) (rest : Option EncodeFault) → cond (not b) (Some f) rest ≡ None → (b ≡ true) × (rest ≡ None)
passes b f rest e = search rules

none_both : (one other : Option EncodeFault) → option_or one other ≡ None → (one ≡ None) × (other ≡ None)
none_both one other e = search rules

in_some : {X : Type 0} (test : X → Bool) (o : Option X) → option_map_or test o true ≡ true → ForSome o (λ x. test x ≡ true)
in_some X test o e = search rules

length-escaped_unit : (unit : ℕ) → length (escaped_unit unit) ≤ 6
length-escaped_unit unit = search rules

length-escaped : (units : List ℕ) → length (escaped units) ≤ 6 * length units
unfolding escaped
length-escaped [] = omega arith
length-escaped (unit ∷ units) = search (rules, length-escaped_unit, length-append, length-escaped units)

-- few units have a short text
pub short_escaped : (units : List ℕ) → length units ≤ 682 → leb (length (escaped units)) 4095 ≡ true
short_escaped units few = search (rules, length-escaped, le-leb)

all_empty : (cells : List ℕ) → list_all (λ cell. eqb cell 0) cells ≡ true → cells ≡ replicate (length cells) 0
all_empty [] e = refl
all_empty (cell ∷ cells) e = search (rules, (and_parts (eqb cell 0) (list_all (λ c. eqb c 0) cells) e), (eqb-true cell 0), (all_empty cells))

all_colours : (cells : List ℕ) → list_all (λ cell. leb cell 8) cells ≡ true → All IsColour cells
all_colours cells e = λ i d lt. leb-true (get_or cells i d) 8 (AllPass-from_list_all (λ cell. leb cell 8) cells e i d lt)

missing_size : (d : Dialect) (cells : List ℕ) → length cells ≡ 240 → length (take (missing_count d) cells) ≡ missing_count d
missing_size d cells size = search (rules, length-take)

-- a page without a fault is fit
pub fit_page : (d : Dialect) (number : ℕ) (page : Page) → HasTypes page → page_encode_fault d number page ≡ None → IsWritable d page
unfolding page_encode_fault
fit_page d number page types e =
    let missing = take (missing_count d) page.cells in
    let inside = option_map_or (is_inside_in d) page.operation true in
    let colours = passes (list_all (λ cell. leb cell 8) page.cells) (fault.BadCell number) _ e in
    let rows = passes (list_all (λ cell. eqb cell 0) missing) (fault.RowTooHigh number) _ colours.1 in
    let placed = passes inside (fault.PieceOutside number) _ rows.1 in
    let short = passes (is_short page.comment) (fault.CommentTooLong number) None placed.1 in
    record {
      sound = record {
        cells = record {
          size = types.size;
          colours = all_colours page.cells colours.0;
          missing = all_empty missing rows.0 ∙ ap (λ (n : ℕ). replicate n 0) (missing_size d page.cells types.size);
        };
        inside = in_some (is_inside_in d) page.operation placed.0;
      };
      units = types.units;
      short = short.0;
    }

pub no_faults : (d : Dialect) (number : ℕ) (pages : List Page) → AllByRecursion HasTypes pages → pages_encode_fault d number pages ≡ None → AllByRecursion (IsWritable d) pages
unfolding pages_encode_fault
no_faults d number [] types e = tt
no_faults d number (page ∷ pages) types e =
    let both = none_both (page_encode_fault d number page) (pages_encode_fault d (number + 1) pages) e in
    (fit_page d number page types.0 both.0, no_faults d (number + 1) pages types.1 both.1)

few_pages : (n most : ℕ) (rest : Option EncodeFault) → cond (ltb most n) (Some fault.TooManyPages) rest ≡ None → (n ≤ most) × (rest ≡ None)
few_pages n most rest e = search (rules, cases_lt, lt-ltb, le-ltb)

fit_reads : (d : Dialect) (pages : List Page) → AllByRecursion (IsWritable d) pages → length pages ≤ most_pages → ReadsAs (written d pages) d pages
fit_reads d pages fit few =
    search (rules, (digits_in-broken d (pages_digits d empty_page 0 pages) (pages_are_digits d empty_page 0 pages)), (pages_spell d empty_page 0 pages (empty_sound d) fit))

pub written_reads : (d : Dialect) (pages : List Page) → AllByRecursion HasTypes pages → list_encode_fault d pages ≡ None → ReadsAs (written d pages) d pages
written_reads d pages types e = search (rules, few_pages, fit_reads, no_faults)

-- the text that was written for fit pages
pub text_reads : (d : Dialect) (pages : List Page) (text : List ℕ) → All (IsWritable d) pages → list_encode_fault d pages ≡ None → text ≡ written d pages → ReadsAs text d pages
text_reads d pages text fit e is = search (rules, fit_reads, recursion_from_All, few_pages)

-- ---- the checks one after the other, as a loop does them

-- the pages before i are fit, and the first fault of all is that of what is left
pub record IsCheckedSoFar (d : Dialect) (pages : List Page) (i : ℕ) : Type 0 where
  pub fit : (k : ℕ) (other : Page) → k < i → IsWritable d (get_or pages k other)
  pub left : pages_encode_fault d (i + 1) (drop i pages) ≡ pages_encode_fault d 1 pages

pub check_starts : (d : Dialect) (pages : List Page) → IsCheckedSoFar d pages 0
check_starts d pages = record { fit = λ k other lt. absurd (omega arith); left = refl }

pub one_left : (d : Dialect) (pages : List Page) (i : ℕ) (page : Page) → i < length pages → page ≡ get_or pages i page
    → pages_encode_fault d (i + 1) (drop i pages) ≡ option_or (page_encode_fault d (i + 1) page) (pages_encode_fault d (i + 1 + 1) (drop (i + 1) pages))
unfolding pages_encode_fault
one_left d pages i page lt is = search (rules, drop_more)

fit_more : (d : Dialect) (pages : List Page) (i : ℕ) (page : Page) → i < length pages → page ≡ get_or pages i page → IsWritable d page → ((k : ℕ) (other : Page) → k < i → IsWritable d (get_or pages k other))
    → (k : ℕ) (other : Page) → k < i + 1 → IsWritable d (get_or pages k other)
fit_more d pages i page lt is fit others k other below = search (rules, (cases_lt k i), (get_or_default pages i page other lt))

pub check_more : (d : Dialect) (pages : List Page) (i : ℕ) (page : Page) → i < length pages → page ≡ get_or pages i page → page_encode_fault d (i + 1) page ≡ None → IsWritable d page → IsCheckedSoFar d pages i
    → IsCheckedSoFar d pages (i + 1)
check_more d pages i page lt is none fit s = search (rules, (fit_more d pages i page lt is fit s.fit), (one_left d pages i page lt is))

pub check_stops : (e : Refused EncodeFault) (d : Dialect) (pages : List Page) (i : ℕ) (page : Page) → i < length pages → length pages ≤ most_pages → page ≡ get_or pages i page → IsRefusedBy {X = Unit {0}} (Err e) (page_encode_fault d (i + 1) page) → IsCheckedSoFar d pages i
    → IsRefusedBy {X = Unit {0}} (Err e) (list_encode_fault d pages)
check_stops (refused.Fault f) d pages i page lt few is found s = search (rules, (le-ltb most_pages (length pages) few), (one_left d pages i page lt is))
check_stops refused.NoMemory d pages i page lt few is found s = tt

pub check_ends : (d : Dialect) (pages : List Page) (i : ℕ) → i ≡ length pages → length pages ≤ most_pages → IsCheckedSoFar d pages i → (list_encode_fault d pages ≡ None) × All (IsWritable d) pages
unfolding pages_encode_fault
check_ends d pages i end few s = search (rules, drop_all, le-ltb)
