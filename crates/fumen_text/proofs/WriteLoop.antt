-- Writing pages one after the other, as loops do.
use Rattle.std.proofs.Common.{◌≡◌, ℕ, suc, ◌+◌, ◌<◌, ◌≤◌, Bool, true, false, cond, min, List, [], ◌∷◌, ◌++◌, length, get_or, drop, refl, sym, ap, ◌∙◌, append_assoc, arith, rules}
use Rattle.std.proofs.lemmas.List.{append-nil, drop_more, drop_all}
use Rattle.fumen_digits.specs.declared.dialect.Dialect.{Dialect}
use Rattle.fumen_digits.specs.Number.{digits}
use Rattle.fumen_pages.specs.declared.page.Page.{Page}
use Rattle.fumen_pages.specs.Cells.{AreCells}
use Rattle.fumen_pages.specs.Next.{next}
use Rattle.fumen_pages.specs.Written.{written_record}
use Rattle.fumen_text.specs.Texts.{empty_page}
use Rattle.fumen_text.specs.Written.{cells_digits, keeps, pages_digits, promised_behind, tail_digits, unchanged_pages}
use Rattle.fumen_pages.proofs.CallerLemmas.{written_same}
use Rattle.fumen_text.proofs.WrittenIsSpelled.{keeps_decides}
use Rattle.fumen_text.proofs.TextReadAsSpelled.{empty_sound}

-- what is left begins with the page at i
next_left : (pages : List Page) (i : ℕ) (page : Page) → i < length pages → page ≡ get_or pages i page → drop i pages ≡ page ∷ drop (i + 1) pages
next_left pages i page lt is = drop_more pages i page lt ∙ ap (λ (x : Page). x ∷ drop (i + 1) pages) (sym is)

-- ---- unchanged pages

one_unchanged : (d : Dialect) (before : List ℕ) (pages : List Page) (i : ℕ) (page : Page) (b : Bool) → i < length pages → page ≡ get_or pages i page → keeps before page ≡ b
    → unchanged_pages d before (drop i pages) ≡ cond b (suc (unchanged_pages d (next d page) (drop (i + 1) pages))) 0
unfolding unchanged_pages
one_unchanged d before pages i page b lt is e = search (rules, next_left)

pub unchanged_stops : (d : Dialect) (before : List ℕ) (pages : List Page) (i count total : ℕ) (page : Page) → i < length pages → page ≡ get_or pages i page → keeps before page ≡ false → count ≤ 63
    → min 63 (count + unchanged_pages d before (drop i pages)) ≡ total → count ≡ total
unchanged_stops d before pages i count total page lt is e few s =
    let none = one_unchanged d before pages i page false lt is e in omega (arith, none)

pub unchanged_more : (d : Dialect) (before : List ℕ) (pages : List Page) (i count total : ℕ) (page : Page) → i < length pages → page ≡ get_or pages i page → keeps before page ≡ true → count < 63
    → min 63 (count + unchanged_pages d before (drop i pages)) ≡ total
    → (count + 1 ≤ 63) × (min 63 (count + 1 + unchanged_pages d (next d page) (drop (i + 1) pages)) ≡ total)
unchanged_more d before pages i count total page lt is e few s = search (rules, (one_unchanged d before pages i page true lt is e))

pub unchanged_ends : (d : Dialect) (before : List ℕ) (pages : List Page) (i count total : ℕ) → length pages ≤ i → count ≤ 63 → min 63 (count + unchanged_pages d before (drop i pages)) ≡ total → count ≡ total
unfolding unchanged_pages
unchanged_ends d before pages i count total le few s = search (rules, drop_all)

-- ---- the cells of a page

-- the unchanged run and its digit are written
pub pushed_unchanged : (d : Dialect) (before : List ℕ) (promised : ℕ) (page : Page) (after : ℕ) (old middle new : List ℕ) → promised ≡ 0 → AreCells d before → keeps before page ≡ true
    → middle ≡ old ++ written_record d before page.cells → new ≡ middle ++ digits 1 after → new ≡ old ++ cells_digits d before promised page after
unfolding cells_digits
pushed_unchanged d before promised page after old middle new none sound e first second =
    search (rules, keeps_decides, written_same, append_assoc)

-- ---- all pages

-- what is written so far, and what is left completes all
pub record IsWrittenSoFar (d : Dialect) (pages : List Page) (written before : List ℕ) (promised i : ℕ) : Type 0 where
  pub sound : AreCells d before
  pub completes : written ++ pages_digits d before promised (drop i pages) ≡ pages_digits d empty_page 0 pages

pub write_starts : (d : Dialect) (pages : List Page) → IsWrittenSoFar d pages [] empty_page 0 0
write_starts d pages = record { sound = empty_sound d; completes = refl }

pub write_more : (d : Dialect) (pages : List Page) (written before : List ℕ) (promised i : ℕ) (page : Page) (after : ℕ) (middle new cells : List ℕ) → i < length pages → page ≡ get_or pages i page
    → after ≡ promised_behind d before promised page (drop (i + 1) pages) → middle ≡ written ++ cells_digits d before promised page after → new ≡ middle ++ tail_digits d page → cells ≡ next d page → AreCells d cells
    → IsWrittenSoFar d pages written before promised i → IsWrittenSoFar d pages new cells after (i + 1)
unfolding pages_digits
write_more d pages written before promised i page after middle new cells lt is after_is first second cells_are sound s =
    search (rules, next_left, append_assoc)

pub write_ends : (d : Dialect) (pages : List Page) (written before : List ℕ) (promised i : ℕ) → length pages ≤ i → IsWrittenSoFar d pages written before promised i → written ≡ pages_digits d empty_page 0 pages
unfolding pages_digits
write_ends d pages written before promised i le s = search (rules, append-nil, drop_all)
