-- Reading pages one after the other, as a loop does.
use Rattle.std.proofs.Common.{◌≡◌, ℕ, zero, suc, ◌+◌, ◌-◌, ◌<◌, ◌≤◌, true, false, List, [], ◌∷◌, ◌++◌, length, Result, Ok, Err, sym, ap, subst, ◌∙◌, append_assoc, arith, rules}
use Rattle.std.proofs.lemmas.List.{append-nil, length-append}
use Rattle.pc_outside.specs.declared.answers.Refused.{Refused}
use Rattle.fumen_digits.specs.declared.dialect.Dialect.{Dialect}
use Rattle.fumen_digits.specs.declared.fault.FumenFault.{FumenFault}
use Rattle.fumen_digits.specs.declared.fault.FumenFault.TheVariants.{TooManyPages}
use Rattle.fumen_digits.specs.Reading.{◌>>=◌}
use Rattle.fumen_digits.specs.ReadResults.{IsRefusal}
use Rattle.fumen_digits.proofs.CallerLemmas.{ok_bind, err_bind}
use Rattle.fumen_pages.specs.declared.page.Page.{Page}
use Rattle.fumen_pages.specs.declared.record.CellsRead.{CellsRead}
use Rattle.fumen_pages.specs.Cells.{AreCells}
use Rattle.fumen_pages.specs.Reading.{record_at}
use Rattle.fumen_text.specs.declared.page_reader.PageReader.{PageReader}
use Rattle.fumen_text.specs.Texts.{empty_page}
use Rattle.fumen_text.specs.Reading.{page_cells_at, is_due, pages_at, reader, promise_at, next_page_at}
use Rattle.fumen_text.proofs.PagesReadAsSpelled.{from_nothing, others_at, turn_due, turn_ended, turn_full, with_front}
use Rattle.fumen_text.proofs.TextReadAsSpelled.{empty_sound}
use Rattle.pc_outside.specs.declared.answers.Refused.TheVariants as refused

-- ---- the cells of a page

pub cells_promised : (d : Dialect) (ds : List ℕ) (place : ℕ) (before : List ℕ) (promised : ℕ) → 0 < promised → page_cells_at d ds place before promised ≡ Ok (reader place before (promised - 1))
unfolding page_cells_at
cells_promised d ds place before promised some = search rules

pub cells_recorded : (d : Dialect) (ds : List ℕ) (place : ℕ) (before : List ℕ) (promised : ℕ) (read : CellsRead) → promised ≡ 0 → record_at d ds place before ≡ Ok read → promise_at ds read ≡ page_cells_at d ds place before promised
unfolding page_cells_at
cells_recorded d ds place before promised read none e = search (rules, ok_bind)

pub cells_refused : (e : Refused FumenFault) (d : Dialect) (ds : List ℕ) (place : ℕ) (before : List ℕ) (promised : ℕ) → promised ≡ 0 → IsRefusal (λ (f : FumenFault). f) e (record_at d ds place before) → IsRefusal (λ (f : FumenFault). f) e (page_cells_at d ds place before promised)
unfolding page_cells_at
cells_refused (refused.Fault f) d ds place before zero none read = err_bind (record_at d ds place before) (λ r. promise_at ds r) f read
cells_refused (refused.Fault f) d ds place before (suc left) none read = absurd (omega (arith, none))
cells_refused refused.NoMemory d ds place before promised none read = tt

-- ---- the pages

-- the pages read so far, and what is left completes all
pub record IsReadSoFar (d : Dialect) (ds : List ℕ) (most : ℕ) (pages : List Page) (at : PageReader) : Type 0 where
  pub within : at.place ≤ length ds
  pub sound : AreCells d at.cells
  pub few : length pages ≤ most
  pub completes :
      with_front pages (pages_at d ds (most - length pages) (length pages + 1) at.place at.cells at.promised)
      ≡ pages_at d ds most 1 0 empty_page 0

pub read_starts : (d : Dialect) (ds : List ℕ) (most : ℕ) → IsReadSoFar d ds most [] (reader 0 empty_page 0)
read_starts d ds most = search (rules, (empty_sound d), (from_nothing (pages_at d ds (most - 0) 1 0 empty_page 0)))

regroup : (pages : List Page) (page : Page) (read : Result (List Page) FumenFault) → with_front pages (read >>= λ others. Ok (page ∷ others)) ≡ with_front (pages ++ page ∷ []) read
unfolding with_front
regroup pages page read = search (rules, append_assoc)

pub read_more : (d : Dialect) (ds : List ℕ) (most count : ℕ) (pages : List Page) (at : PageReader) (step : Page × PageReader) → is_due ds at.place at.promised ≡ true → count ≡ length pages → count < most
    → next_page_at d ds (count + 1) at.place at.cells at.promised ≡ Ok step → step.1.place ≤ length ds → AreCells d step.1.cells → IsReadSoFar d ds most pages at
    → IsReadSoFar d ds most (pages ++ step.0 ∷ []) step.1
read_more d ds most count pages at step due counted fewer read_counted within sound s =
    let read = subst (λ (n : ℕ). next_page_at d ds (n + 1) at.place at.cells at.promised ≡ Ok step) counted read_counted in
    let more = length-append pages (step.0 ∷ []) in
    let left = most - length pages - 1 in
    let room : most - length pages ≡ suc left = omega arith in
    let room_is : most - length (pages ++ step.0 ∷ []) ≡ left = omega (arith, more) in
    let number_is : length (pages ++ step.0 ∷ []) + 1 ≡ length pages + 1 + 1 = omega (arith, more) in
    let number = length pages + 1 in
    let others = pages_at d ds left (number + 1) step.1.place step.1.cells step.1.promised in
    let turn : pages_at d ds (most - length pages) number at.place at.cells at.promised ≡ (others >>= λ x. Ok (step.0 ∷ x)) =
    ap (λ (n : ℕ). pages_at d ds n number at.place at.cells at.promised) room
    ∙ (turn_due d ds left number at.place at.cells at.promised due ∙ ok_bind (next_page_at d ds number at.place at.cells at.promised) (λ x. others_at d ds left number x) step read) in
    let behind : pages_at d ds (most - length (pages ++ step.0 ∷ [])) (length (pages ++ step.0 ∷ []) + 1) step.1.place step.1.cells step.1.promised ≡ others =
    ap (λ (n : ℕ). pages_at d ds n (length (pages ++ step.0 ∷ []) + 1) step.1.place step.1.cells step.1.promised) room_is
    ∙ ap (λ (n : ℕ). pages_at d ds left n step.1.place step.1.cells step.1.promised) number_is in
    record {
      within = within;
      sound = sound;
      few = omega (arith, more);
      completes =
          ap (λ (r : Result (List Page) FumenFault). with_front (pages ++ step.0 ∷ []) r) behind
          ∙ (sym (regroup pages step.0 others) ∙ (ap (λ (r : Result (List Page) FumenFault). with_front pages r) (sym turn) ∙ s.completes));
    }

pub read_stops : (e : Refused FumenFault) (d : Dialect) (ds : List ℕ) (most count : ℕ) (pages : List Page) (at : PageReader) → is_due ds at.place at.promised ≡ true → count ≡ length pages → count < most
    → IsRefusal (λ (f : FumenFault). f) e (next_page_at d ds (count + 1) at.place at.cells at.promised) → IsReadSoFar d ds most pages at
    → IsRefusal (λ (f : FumenFault). f) e (pages_at d ds most 1 0 empty_page 0)
unfolding with_front
read_stops (refused.Fault f) d ds most count pages at due counted fewer read_counted s =
    search (rules, (turn_due d ds (most - length pages - 1) (length pages + 1) at.place at.cells at.promised due), (err_bind (next_page_at d ds (length pages + 1) at.place at.cells at.promised) (λ x. others_at d ds (most - length pages - 1) (length pages + 1) x) f))
read_stops refused.NoMemory d ds most count pages at due counted fewer read s = tt

pub read_full : (d : Dialect) (ds : List ℕ) (most count : ℕ) (pages : List Page) (at : PageReader) → is_due ds at.place at.promised ≡ true → count ≡ length pages → count ≡ most → IsReadSoFar d ds most pages at
    → pages_at d ds most 1 0 empty_page 0 ≡ Err TooManyPages
unfolding with_front
read_full d ds most count pages at due counted full s = search (rules, (turn_full d ds (length pages + 1) at.place at.cells at.promised due))

pub read_ends : (d : Dialect) (ds : List ℕ) (most : ℕ) (pages : List Page) (at : PageReader) → is_due ds at.place at.promised ≡ false → IsReadSoFar d ds most pages at → pages_at d ds most 1 0 empty_page 0 ≡ Ok pages
unfolding with_front
read_ends d ds most pages at ended s = search (rules, turn_ended, append-nil)
