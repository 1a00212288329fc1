-- Pages one after the other: what is read stands there, and what stands there is read; a fault is the first one there.
use Rattle.std.proofs.Common.{◌≡◌, ℕ, zero, suc, ◌+◌, ◌-◌, ◌<◌, ◌≤◌, Bool, true, false, cond, List, [], ◌∷◌, ◌++◌, length, Result, Ok, Err, refl, sym, ap, subst, ◌∙◌, ◌⊎◌, inl, inr, arith, rules}
use Rattle.fumen_digits.specs.declared.dialect.Dialect.{Dialect}
use Rattle.fumen_digits.specs.declared.fault.FumenFault.{FumenFault}
use Rattle.fumen_digits.specs.declared.fault.FumenFault.TheVariants.{TooManyPages}
use Rattle.fumen_digits.specs.Reading.{◌>>=◌}
use Rattle.fumen_digits.proofs.CallerLemmas.{bind_ok, bind_err, ok_bind, err_bind}
use Rattle.fumen_pages.specs.declared.page.Page.{Page}
use Rattle.fumen_pages.specs.Cells.{AreCells}
use Rattle.fumen_pages.specs.Next.{next}
use Rattle.fumen_pages.proofs.CallerLemmas.{next_cells_sound}
use Rattle.fumen_text.specs.declared.page_reader.PageReader.{PageReader}
use Rattle.fumen_text.specs.Faults.{IsDue, IsPageFault, PagesStand, SpellsWhole}
use Rattle.fumen_text.specs.Reading.{reader, is_due, next_page_at, pages_at}
use Rattle.fumen_text.proofs.PageReadAsSpelled.{PageStands, step_from_read, read_from_step, step_fault_from_read, read_from_step_fault}
use Rattle.fumen_text.proofs.WholePages.{due_cases, is_due-due, page_has_digits, whole_none, whole_more, whole_parts, whole_nothing}

-- the pages read so far, and those still to come
unfoldable pub with_front : List Page → Result (List Page) FumenFault → Result (List Page) FumenFault
with_front front read = read >>= λ pages. Ok (front ++ pages)

pub from_nothing : (read : Result (List Page) FumenFault) → with_front [] read ≡ read
unfolding with_front
from_nothing read = search rules

pub one_in_front : (page : Page) (pages : List Page) (read : Result (List Page) FumenFault) → (with_front pages read >>= λ others. Ok (page ∷ others)) ≡ with_front (page ∷ pages) read
unfolding with_front
one_in_front page pages read = search rules

-- ---- one turn

abbrev pub others_at : Dialect → List ℕ → ℕ → ℕ → Page × PageReader → Result (List Page) FumenFault
others_at d ds room number step =
    pages_at d ds room (number + 1) step.1.place step.1.cells step.1.promised >>= λ pages. Ok (step.0 ∷ pages)

pub turn_due : (d : Dialect) (ds : List ℕ) (room number place : ℕ) (before : List ℕ) (promised : ℕ) → is_due ds place promised ≡ true
    → pages_at d ds (suc room) number place before promised ≡ (next_page_at d ds number place before promised >>= λ step. others_at d ds room number step)
unfolding pages_at
turn_due d ds room number place before promised due = search rules

pub turn_full : (d : Dialect) (ds : List ℕ) (number place : ℕ) (before : List ℕ) (promised : ℕ) → is_due ds place promised ≡ true → pages_at d ds zero number place before promised ≡ Err TooManyPages
unfolding pages_at
turn_full d ds number place before promised due = ap (λ (b : Bool). cond b (Err TooManyPages) (Ok [])) due

pub turn_ended : (d : Dialect) (ds : List ℕ) (room number place : ℕ) (before : List ℕ) (promised : ℕ) → is_due ds place promised ≡ false → pages_at d ds room number place before promised ≡ Ok []
unfolding pages_at
turn_ended d ds room number place before promised ended = search (rules, ended)

-- ---- what stands whole is read

-- the pages from a place on, after a page that stands there
pub read_page_first : (d : Dialect) (ds : List ℕ) (room number place : ℕ) (before : List ℕ) (promised : ℕ) (page : Page) (end between : ℕ) → AreCells d before → PageStands d ds place before promised page end between
    → pages_at d ds (suc room) number place before promised ≡ (pages_at d ds room (number + 1) end (next d page) between >>= λ pages. Ok (page ∷ pages))
read_page_first d ds room number place before promised page end between sound one =
    turn_due d ds room number place before promised (is_due-due ds place promised (inl (page_has_digits d ds place before promised page end between one)))
    ∙ ok_bind (next_page_at d ds number place before promised) (λ step. others_at d ds room number step) (page, reader end (next d page) between) (read_from_step d ds number place before promised page end between sound one)

pub read_whole : (d : Dialect) (ds : List ℕ) (pages : List Page) (room total number behind place : ℕ) (before : List ℕ) (promised k : ℕ) (cells : List ℕ) (after : ℕ)
    → total ≡ length pages + room → behind ≡ length pages + number → AreCells d before → PagesStand d ds place before promised pages k cells after
    → pages_at d ds total number place before promised ≡ with_front pages (pages_at d ds room behind k cells after)
read_whole d ds [] room total number behind place before promised k cells after total_is behind_is sound s =
    search (rules, (from_nothing (pages_at d ds room behind k cells after)), (whole_nothing (λ p x a. pages_at d ds total number p x a ≡ with_front [] (pages_at d ds room behind k cells after)) d ds place before promised k cells after s))
read_whole d ds (page ∷ pages) room total number behind place before promised k cells after total_is behind_is sound s =
    let parts = whole_parts d ds place before promised page pages k cells after s in
    let more : total ≡ suc (length pages + room) = omega arith in
    let one = parts.one in
    let rest = read_whole d ds pages room (length pages + room) (number + 1) behind parts.end (next d page) parts.between k cells after refl (omega arith) (next_cells_sound d page one.sound) parts.others in
    ap (λ (n : ℕ). pages_at d ds n number place before promised) more
    ∙ (read_page_first d ds (length pages + room) number place before promised page parts.end parts.between sound one
    ∙ (ap (λ (r : Result (List Page) FumenFault). r >>= λ others. Ok (page ∷ others)) rest ∙ one_in_front page pages (pages_at d ds room behind k cells after)))

-- what whole pages leave may be a page's cells
pub whole_sound : (d : Dialect) (ds : List ℕ) (place : ℕ) (before : List ℕ) (promised : ℕ) (pages : List Page) (k : ℕ) (cells : List ℕ) (after : ℕ) → AreCells d before → PagesStand d ds place before promised pages k cells after → AreCells d cells
unfolding SpellsWhole
whole_sound d ds place before promised [] k cells after sound s = subst (λ (x : List ℕ). AreCells d x) (sym s.spells.0) sound
whole_sound d ds place before promised (page ∷ pages) k cells after sound s =
    let parts = whole_parts d ds place before promised page pages k cells after s in
    whole_sound d ds parts.end (next d page) parts.between pages k cells after (next_cells_sound d page parts.one.sound) parts.others

-- ---- what is read stands there, up to the end of the digits

pub record ReadToEnd (d : Dialect) (ds : List ℕ) (room place : ℕ) (before : List ℕ) (promised : ℕ) (pages : List Page) : Type 0 where
  pub cells : List ℕ
  pub stand : PagesStand d ds place before promised pages (length ds) cells 0
  pub few : length pages ≤ room

done_pages : (x y : List Page) → ◌≡◌ {A = Result (List Page) FumenFault} (Ok x) (Ok y) → x ≡ y
done_pages x y e = cc

ended : (d : Dialect) (ds : List ℕ) (room place : ℕ) (before : List ℕ) (promised : ℕ) → place ≤ length ds → length ds ≤ place → promised ≡ 0 → ReadToEnd d ds room place before promised []
ended d ds room place before promised le past none = search (rules, (whole_none d ds place before promised le))

-- where a page is read, it stands there, and its cells may be left
record Stepped (d : Dialect) (ds : List ℕ) (place : ℕ) (before : List ℕ) (promised : ℕ) (step : Page × PageReader) : Type 0 where
  one : PageStands d ds place before promised step.0 step.1.place step.1.promised
  within : step.1.place ≤ length ds
  leaves : step.1.cells ≡ next d step.0
  sound : AreCells d step.1.cells

stepped : (d : Dialect) (ds : List ℕ) (number place : ℕ) (before : List ℕ) (promised : ℕ) (step : Page × PageReader) → place ≤ length ds → AreCells d before → next_page_at d ds number place before promised ≡ Ok step
    → Stepped d ds place before promised step
stepped d ds number place before promised step le sound e =
    search (rules, (step_from_read d ds number place before promised step le sound e), (next_cells_sound d step.0 (step_from_read d ds number place before promised step le sound e).stands.sound))

ended_read : (d : Dialect) (ds : List ℕ) (room number place : ℕ) (before : List ℕ) (promised : ℕ) (pages : List Page) → place ≤ length ds → is_due ds place promised ≡ false → length ds ≤ place → promised ≡ 0 → pages_at d ds room number place before promised ≡ Ok pages
    → ReadToEnd d ds room place before promised pages
ended_read d ds room number place before promised pages le not past none e =
    search (rules, done_pages, turn_ended, ended)

pub pages_from_read : (d : Dialect) (ds : List ℕ) (room number place : ℕ) (before : List ℕ) (promised : ℕ) (pages : List Page) → place ≤ length ds → AreCells d before → pages_at d ds room number place before promised ≡ Ok pages
    → ReadToEnd d ds room place before promised pages
pages_from_read d ds zero number place before promised pages le sound e =
    search (rules, due_cases, ended_read, turn_full)
pages_from_read d ds (suc room) number place before promised pages le sound e =
    elim (due_cases ds place promised) [
      | inr past ↦ ended_read d ds (suc room) number place before promised pages le past.0 past.1 past.2 e
      | inl due ↦
          let s = bind_ok (next_page_at d ds number place before promised) (λ step. others_at d ds room number step) pages (sym (turn_due d ds room number place before promised due.0) ∙ e) in
          let step = s.0 in
          let r = bind_ok (pages_at d ds room (number + 1) step.1.place step.1.cells step.1.promised) (λ others. Ok (step.0 ∷ others)) pages s.2 in
          let one = stepped d ds number place before promised step le sound s.1 in
          let others = pages_from_read d ds room (number + 1) step.1.place step.1.cells step.1.promised r.0 one.within one.sound r.1 in
          let stand = subst (λ (x : List ℕ). PagesStand d ds step.1.place x step.1.promised r.0 (length ds) others.cells 0) one.leaves others.stand in
          subst (λ (x : List Page). ReadToEnd d ds (suc room) place before promised x) (done_pages (step.0 ∷ r.0) pages r.2) (record {
            cells = others.cells;
            stand = whole_more d ds place before promised step.0 step.1.place step.1.promised r.0 (length ds) others.cells 0 one.one stand;
            few = omega (arith, others.few);
          })
    ]

-- ---- faults

-- pages stand whole up to a place, and one more is due there, which is one too many, or has a fault
pub record MeetsFault (d : Dialect) (ds : List ℕ) (room number place : ℕ) (before : List ℕ) (promised : ℕ) (f : FumenFault) : Type 0 where
  pub pages : List Page
  pub k : ℕ
  pub cells : List ℕ
  pub after : ℕ
  pub stand : PagesStand d ds place before promised pages k cells after
  pub due : IsDue ds k after
  pub fault :
      ((length pages ≡ room) × (f ≡ TooManyPages))
      ⊎ ((length pages < room) × IsPageFault d ds (length pages + number) k cells after f)

fault_here : (d : Dialect) (ds : List ℕ) (room number place : ℕ) (before : List ℕ) (promised : ℕ) (f : FumenFault) → place ≤ length ds → IsDue ds place promised
    → ((0 ≡ room) × (f ≡ TooManyPages)) ⊎ ((0 < room) × IsPageFault d ds number place before promised f)
    → MeetsFault d ds room number place before promised f
fault_here d ds room number place before promised f le due (inl full) = search (rules, (whole_none d ds place before promised le))
fault_here d ds room number place before promised f le due (inr bad) =
    let here : number ≡ 0 + number = omega arith in
    record {
      pages = [];
      k = place;
      cells = before;
      after = promised;
      stand = whole_none d ds place before promised le;
      due = due;
      fault = inr (bad.0, subst (λ (n : ℕ). IsPageFault d ds n place before promised f) here bad.1);
    }

fault_behind : (d : Dialect) (ds : List ℕ) (room number place : ℕ) (before : List ℕ) (promised : ℕ) (page : Page) (end between : ℕ) (f : FumenFault) → PageStands d ds place before promised page end between
    → MeetsFault d ds room (number + 1) end (next d page) between f → MeetsFault d ds (suc room) number place before promised f
fault_behind d ds room number place before promised page end between f one m =
    record {
      pages = page ∷ m.pages;
      k = m.k;
      cells = m.cells;
      after = m.after;
      stand = whole_more d ds place before promised page end between m.pages m.k m.cells m.after one m.stand;
      due = m.due;
      fault = elim m.fault [
        | inl full ↦ inl (ap suc full.0, full.1)
        | inr bad ↦
            let same : length m.pages + (number + 1) ≡ suc (length m.pages) + number = omega arith in
            inr (omega (arith, bad.0), subst (λ (n : ℕ). IsPageFault d ds n m.k m.cells m.after f) same bad.1)
      ];
    }

same_fault : (f g : FumenFault) → ◌≡◌ {A = Result (List Page) FumenFault} (Err f) (Err g) → g ≡ f
same_fault f g e = cc

no_fault : {A : Type 0} (d : Dialect) (ds : List ℕ) (room number place : ℕ) (before : List ℕ) (promised : ℕ) (f : FumenFault) → is_due ds place promised ≡ false → pages_at d ds room number place before promised ≡ Err f → A
no_fault d ds room number place before promised f not e = search (rules, turn_ended)

pub pages_fault_from_read : (d : Dialect) (ds : List ℕ) (room number place : ℕ) (before : List ℕ) (promised : ℕ) (f : FumenFault) → place ≤ length ds → AreCells d before → pages_at d ds room number place before promised ≡ Err f
    → MeetsFault d ds room number place before promised f
pages_fault_from_read d ds zero number place before promised f le sound e =
    elim (due_cases ds place promised) [
      | inr past ↦ no_fault d ds zero number place before promised f past.0 e
      | inl due ↦ fault_here d ds zero number place before promised f le due.1 (inl (refl, same_fault TooManyPages f (sym (turn_full d ds number place before promised due.0) ∙ e)))
    ]
pages_fault_from_read d ds (suc room) number place before promised f le sound e =
    elim (due_cases ds place promised) [
      | inr past ↦ no_fault d ds (suc room) number place before promised f past.0 e
      | inl due ↦
          elim (bind_err (next_page_at d ds number place before promised) (λ step. others_at d ds room number step) f (sym (turn_due d ds room number place before promised due.0) ∙ e)) [
            | inl bad ↦ fault_here d ds (suc room) number place before promised f le due.1 (inr (omega arith, step_fault_from_read d ds number place before promised f le sound bad))
            | inr s ↦
                let step = s.0 in
                let one = stepped d ds number place before promised step le sound s.1 in
                elim (bind_err (pages_at d ds room (number + 1) step.1.place step.1.cells step.1.promised) (λ others. Ok (step.0 ∷ others)) f s.2) [
                  | inl later ↦
                      let m = pages_fault_from_read d ds room (number + 1) step.1.place step.1.cells step.1.promised f one.within one.sound later in
                      fault_behind d ds room number place before promised step.0 step.1.place step.1.promised f one.one (subst (λ (x : List ℕ). MeetsFault d ds room (number + 1) step.1.place x step.1.promised f) one.leaves m)
                  | inr r ↦ absurd (let never = r.2 in cc)
                ]
          ]
    ]

-- a fault that is met is read
pub read_from_fault : (d : Dialect) (ds : List ℕ) (room number place : ℕ) (before : List ℕ) (promised : ℕ) (f : FumenFault) → AreCells d before → MeetsFault d ds room number place before promised f
    → pages_at d ds room number place before promised ≡ Err f
unfolding with_front
read_from_fault d ds room number place before promised f sound m =
    let due = is_due-due ds m.k m.after m.due in
    let cells = whole_sound d ds place before promised m.pages m.k m.cells m.after sound m.stand in
    elim m.fault [
      | inl full ↦
          read_whole d ds m.pages 0 room number (length m.pages + number) place before promised m.k m.cells m.after (omega (arith, full.0)) refl sound m.stand
          ∙ (ap (λ (r : Result (List Page) FumenFault). with_front m.pages r) (turn_full d ds (length m.pages + number) m.k m.cells m.after due) ∙ ap (λ (x : FumenFault). Err x) (sym full.1))
      | inr bad ↦
          let left = room - length m.pages - 1 in
          let whole = read_whole d ds m.pages (suc left) room number (length m.pages + number) place before promised m.k m.cells m.after (omega (arith, bad.0)) refl sound m.stand in
          let failed : pages_at d ds (suc left) (length m.pages + number) m.k m.cells m.after ≡ Err f =
          turn_due d ds left (length m.pages + number) m.k m.cells m.after due
          ∙ err_bind (next_page_at d ds (length m.pages + number) m.k m.cells m.after) (λ step. others_at d ds left (length m.pages + number) step) f (read_from_step_fault d ds (length m.pages + number) m.k m.cells m.after f cells bad.1) in
          whole ∙ ap (λ (r : Result (List Page) FumenFault). with_front m.pages r) failed
    ]
