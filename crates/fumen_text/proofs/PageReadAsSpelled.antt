-- One page: what is read stands there, and what stands there is read; a fault is the first one there.
use Rattle.std.proofs.Common.{◌≡◌, ℕ, ◌≤◌, List, length, Result, Ok, Err, refl, sym, subst, ◌∙◌, inl, inr}
use Rattle.fumen_digits.specs.declared.dialect.Dialect.{Dialect}
use Rattle.fumen_digits.specs.declared.fault.FumenFault.{FumenFault}
use Rattle.fumen_digits.specs.Reading.{◌>>=◌}
use Rattle.fumen_digits.proofs.CallerLemmas.{bind_ok, bind_err, ok_bind, err_bind}
use Rattle.fumen_pages.specs.declared.page.Page.{Page}
use Rattle.fumen_pages.specs.Cells.{AreCells}
use Rattle.fumen_pages.specs.Next.{next}
use Rattle.fumen_pages.specs.Sound.{IsSound}
use Rattle.fumen_pages.specs.Reading.{page_at}
use Rattle.fumen_pages.specs.Faults.{TailStands}
use Rattle.fumen_pages.proofs.CallerLemmas.{page_from_read, read_from_page, tail_fault_from_read, read_from_tail_fault}
use Rattle.fumen_text.specs.declared.page_reader.PageReader.{PageReader}
use Rattle.fumen_text.specs.Faults.{CellsStand, IsPageFault}
use Rattle.fumen_text.specs.Reading.{reader, page_cells_at, next_page_at}
use Rattle.fumen_text.proofs.CellsReadAsSpelled.{cells_from_read, sound_cells, read_from_cells, cells_fault_from_read, read_from_cells_fault}

-- a page stands from a place up to end, and leaves so many promised
pub record PageStands (d : Dialect) (ds : List ℕ) (place : ℕ) (before : List ℕ) (promised : ℕ) (page : Page) (end after : ℕ) : Type 0 where
  pub sound : IsSound d page
  pub middle : ℕ
  pub cells : CellsStand d ds place before promised middle page.cells after
  pub tail : TailStands d ds middle page end

-- what a step gives of a page that stands there
pub record IsStep (d : Dialect) (ds : List ℕ) (place : ℕ) (before : List ℕ) (promised : ℕ) (step : Page × PageReader) : Type 0 where
  pub stands : PageStands d ds place before promised step.0 step.1.place step.1.promised
  pub leaves : step.1.cells ≡ next d step.0

done_step : (x y : Page × PageReader) → ◌≡◌ {A = Result (Page × PageReader) FumenFault} (Ok x) (Ok y) → x ≡ y
done_step x y e = cc

abbrev then_tail : Dialect → List ℕ → ℕ → PageReader → Result (Page × PageReader) FumenFault
then_tail d ds number at =
    page_at d at.cells number ds at.place >>= λ page. Ok (page.0, reader page.1 (next d page.0) at.promised)

pub step_from_read : (d : Dialect) (ds : List ℕ) (number place : ℕ) (before : List ℕ) (promised : ℕ) (step : Page × PageReader) → place ≤ length ds → AreCells d before → next_page_at d ds number place before promised ≡ Ok step
    → IsStep d ds place before promised step
unfolding next_page_at
step_from_read d ds number place before promised step le sound e =
    let h = bind_ok (page_cells_at d ds place before promised) (λ at. then_tail d ds number at) step e in
    let at = h.0 in
    let p = bind_ok (page_at d at.cells number ds at.place) (λ page. Ok (page.0, reader page.1 (next d page.0) at.promised)) step h.2 in
    let page = p.0.0 in
    let cells = cells_from_read d ds place before promised at le sound h.1 in
    let tail = page_from_read d at.cells number ds at.place page p.0.1 cells.stands.within p.1 in
    let read : IsStep d ds place before promised (page, reader p.0.1 (next d page) at.promised) = record {
      stands = record {
        sound = record {
          cells = subst (λ (x : List ℕ). AreCells d x) (sym tail.same_cells) (sound_cells d before promised at.cells at.promised cells.text sound cells.spells);
          inside = tail.inside;
        };
        middle = at.place;
        cells = subst (λ (x : List ℕ). CellsStand d ds place before promised at.place x at.promised) (sym tail.same_cells) cells;
        tail = tail.stands;
      };
      leaves = refl;
    } in
    subst (λ (x : Page × PageReader). IsStep d ds place before promised x) (done_step (page, reader p.0.1 (next d page) at.promised) step p.2) read

pub read_from_step : (d : Dialect) (ds : List ℕ) (number place : ℕ) (before : List ℕ) (promised : ℕ) (page : Page) (end after : ℕ) → AreCells d before → PageStands d ds place before promised page end after
    → next_page_at d ds number place before promised ≡ Ok (page, reader end (next d page) after)
unfolding next_page_at
read_from_step d ds number place before promised page end after sound s =
    ok_bind (page_cells_at d ds place before promised) (λ at. then_tail d ds number at) (reader s.middle page.cells after) (read_from_cells d ds place before promised s.middle page.cells after sound s.cells)
    ∙ ok_bind (page_at d page.cells number ds s.middle) (λ x. Ok (x.0, reader x.1 (next d x.0) after)) (page, end) (read_from_page d page.cells number ds s.middle page end refl s.tail)

pub step_fault_from_read : (d : Dialect) (ds : List ℕ) (number place : ℕ) (before : List ℕ) (promised : ℕ) (f : FumenFault) → place ≤ length ds → AreCells d before → next_page_at d ds number place before promised ≡ Err f
    → IsPageFault d ds number place before promised f
unfolding next_page_at
step_fault_from_read d ds number place before promised f le sound e =
    elim (bind_err (page_cells_at d ds place before promised) (λ at. then_tail d ds number at) f e) [
      | inl bad ↦ inl (cells_fault_from_read d ds place before promised f le sound bad)
      | inr h ↦
          let at = h.0 in
          let cells = cells_from_read d ds place before promised at le sound h.1 in
          elim (bind_err (page_at d at.cells number ds at.place) (λ page. Ok (page.0, reader page.1 (next d page.0) at.promised)) f h.2) [
            | inl bad ↦ inr (at.place, at.cells, at.promised, cells, tail_fault_from_read d at.cells number ds at.place f cells.stands.within bad)
            | inr p ↦ absurd (let never = p.2 in cc)
          ]
    ]

pub read_from_step_fault : (d : Dialect) (ds : List ℕ) (number place : ℕ) (before : List ℕ) (promised : ℕ) (f : FumenFault) → AreCells d before → IsPageFault d ds number place before promised f
    → next_page_at d ds number place before promised ≡ Err f
unfolding next_page_at
read_from_step_fault d ds number place before promised f sound (inl bad) =
    err_bind (page_cells_at d ds place before promised) (λ at. then_tail d ds number at) f (read_from_cells_fault d ds place before promised f sound bad)
read_from_step_fault d ds number place before promised f sound (inr t) =
    ok_bind (page_cells_at d ds place before promised) (λ at. then_tail d ds number at) (reader t.0 t.1 t.2) (read_from_cells d ds place before promised t.0 t.1 t.2 sound t.3)
    ∙ err_bind (page_at d t.1 number ds t.0) (λ x. Ok (x.0, reader x.1 (next d x.0) t.2)) f (read_from_tail_fault d t.1 number ds t.0 f t.4)
