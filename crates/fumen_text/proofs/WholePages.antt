-- Pages that stand whole, one behind the other.
use Rattle.std.proofs.Common.{◌≡◌, ℕ, ◌+◌, ◌<◌, ◌≤◌, true, false, List, [], ◌∷◌, ◌++◌, length, refl, sym, ap, subst, ◌∙◌, ◌⊎◌, arith, rules}
use Rattle.std.proofs.lemmas.Bool.{cases_lt, lt-ltb, le-ltb}
use Rattle.std.proofs.lemmas.List.{append-nil, drop_all, length-append}
use Rattle.fumen_digits.specs.declared.dialect.Dialect.{Dialect}
use Rattle.fumen_digits.specs.Number.{Stands}
use Rattle.fumen_digits.proofs.CallerLemmas.{length-digits, Stands-nil, Stands-then, Stands-parts}
use Rattle.fumen_pages.specs.declared.page.Page.{Page}
use Rattle.fumen_pages.specs.Next.{next}
use Rattle.fumen_text.specs.Spells.{SpellsFumen}
use Rattle.fumen_text.specs.Faults.{IsDue, PagesStand, SpellsWhole}
use Rattle.fumen_text.specs.Reading.{is_due}
use Rattle.fumen_text.proofs.PageReadAsSpelled.{PageStands}

-- ---- a page is due, or not

pub due_cases : (ds : List ℕ) (place promised : ℕ) → ((is_due ds place promised ≡ true) × IsDue ds place promised) ⊎ ((is_due ds place promised ≡ false) × (length ds ≤ place) × (promised ≡ 0))
due_cases ds place promised = search (rules, cases_lt, lt-ltb, le-ltb)

pub is_due-due : (ds : List ℕ) (place promised : ℕ) → IsDue ds place promised → is_due ds place promised ≡ true
is_due-due ds place promised due = search (rules, due_cases)

pub is_due-ended : (ds : List ℕ) (place promised : ℕ) → length ds ≤ place → promised ≡ 0 → is_due ds place promised ≡ false
is_due-ended ds place promised le none = search (rules, le-ltb)

-- a page that stands has digits
pub page_has_digits : (d : Dialect) (ds : List ℕ) (place : ℕ) (before : List ℕ) (promised : ℕ) (page : Page) (end after : ℕ) → PageStands d ds place before promised page end after → place < length ds
page_has_digits d ds place before promised page end after s = search (rules, length-append, length-digits)

-- ---- whole pages

pub whole_none : (d : Dialect) (ds : List ℕ) (place : ℕ) (before : List ℕ) (promised : ℕ) → place ≤ length ds → PagesStand d ds place before promised [] place before promised
unfolding SpellsWhole
whole_none d ds place before promised le = record { text = []; stands = Stands-nil ds place le; spells = (refl, refl, refl) }

pub whole_more : (d : Dialect) (ds : List ℕ) (place : ℕ) (before : List ℕ) (promised : ℕ) (page : Page) (end between : ℕ) (pages : List Page) (k : ℕ) (cells : List ℕ) (after : ℕ) → PageStands d ds place before promised page end between
    → PagesStand d ds end (next d page) between pages k cells after
    → PagesStand d ds place before promised (page ∷ pages) k cells after
unfolding SpellsWhole
whole_more d ds place before promised page end between pages k cells after one others =
    search (rules, (Stands-then ds place one.cells.text one.middle (one.tail.text ++ others.text) k one.cells.stands (Stands-then ds one.middle one.tail.text end others.text k one.tail.stands others.stands)))

-- where whole pages stand, the first one does, and the others behind it
pub record FirstPage (d : Dialect) (ds : List ℕ) (place : ℕ) (before : List ℕ) (promised : ℕ) (page : Page) (pages : List Page) (k : ℕ) (cells : List ℕ) (after : ℕ) : Type 0 where
  pub end : ℕ
  pub between : ℕ
  pub one : PageStands d ds place before promised page end between
  pub others : PagesStand d ds end (next d page) between pages k cells after

pub whole_parts : (d : Dialect) (ds : List ℕ) (place : ℕ) (before : List ℕ) (promised : ℕ) (page : Page) (pages : List Page) (k : ℕ) (cells : List ℕ) (after : ℕ) → PagesStand d ds place before promised (page ∷ pages) k cells after
    → FirstPage d ds place before promised page pages k cells after
unfolding SpellsWhole
whole_parts d ds place before promised page pages k cells after s =
    let between = s.spells.0 in
    let sound = s.spells.1 in
    let head = s.spells.2 in
    let tail = head.other in
    let whole = subst (λ (x : List ℕ). Stands ds place x k) head.divided s.stands in
    let first = Stands-parts ds place head.front head.back k whole in
    let middle = place + length head.front in
    let behind = subst (λ (x : List ℕ). Stands ds middle x k) tail.divided first.1 in
    let second = Stands-parts ds middle tail.front tail.back k behind in
    record {
      end = middle + length tail.front;
      between = between;
      one = record {
        sound = sound;
        middle = middle;
        cells = record { text = head.front; stands = first.0; spells = head.one };
        tail = record { text = tail.front; stands = second.0; spells = tail.one };
      };
      others = record { text = tail.back; stands = second.1; spells = tail.other };
    }

whole_empty : (d : Dialect) (ds : List ℕ) (place : ℕ) (before : List ℕ) (promised k : ℕ) (cells : List ℕ) (after : ℕ) → PagesStand d ds place before promised [] k cells after → (k ≡ place) × (cells ≡ before) × (after ≡ promised)
unfolding SpellsWhole
whole_empty d ds place before promised k cells after s = search rules

-- what holds behind no pages holds before them
pub whole_nothing : (P : ℕ → List ℕ → ℕ → Type 0) (d : Dialect) (ds : List ℕ) (place : ℕ) (before : List ℕ) (promised k : ℕ) (cells : List ℕ) (after : ℕ) → PagesStand d ds place before promised [] k cells after → P k cells after → P place before promised
whole_nothing P d ds place before promised k cells after s p = search (rules, (whole_empty d ds place before promised k cells after s))

-- ---- pages up to the end of the digits

pub spells_from_whole : (d : Dialect) (before : List ℕ) (promised : ℕ) (pages : List Page) (cells text : List ℕ) → SpellsWhole d before promised pages cells 0 text → SpellsFumen d before promised pages text
unfolding SpellsFumen SpellsWhole
spells_from_whole d before promised [] cells text s = (sym s.1, s.2)
spells_from_whole d before promised (page ∷ pages) cells text s = search (rules, (spells_from_whole d (next d page) s.0 pages cells s.2.other.back s.2.other.other))

pub whole_from_spells : (d : Dialect) (before : List ℕ) (promised : ℕ) (pages : List Page) (text : List ℕ) → SpellsFumen d before promised pages text → (cells : List ℕ) × SpellsWhole d before promised pages cells 0 text
unfolding SpellsFumen SpellsWhole
whole_from_spells d before promised [] text s = (before, (refl, sym s.0, s.1))
whole_from_spells d before promised (page ∷ pages) text s =
    let head = s.2 in
    let tail = head.other in
    let others = whole_from_spells d (next d page) s.0 pages tail.back tail.other in (
      others.0,
      (
        s.0,
        s.1,
        record {
          front = head.front;
          back = head.back;
          divided = head.divided;
          one = head.one;
          other = record { front = tail.front; back = tail.back; divided = tail.divided; one = tail.one; other = others.1 };
        },
      ),
    )

-- what stands from the first digit up to the end is all digits
pub all_stands : (ds text : List ℕ) → Stands ds 0 text (length ds) → ds ≡ text
all_stands ds text s = s.here ∙ (ap (λ (x : List ℕ). text ++ x) (drop_all (length ds) ds (omega arith)) ∙ append-nil text)

pub stands_all : (ds : List ℕ) → Stands ds 0 ds (length ds)
stands_all ds = search (rules, drop_all, append-nil)
