-- The digits that spell a list of pages.
use Rattle.std.specs.Prelude.{◌≡◌, ℕ, zero, suc, ◌<◌, List, [], ◌∷◌, ◌++◌, ◌⊎◌}
use Rattle.fumen_digits.specs.declared.dialect.Dialect.{Dialect}
use Rattle.fumen_digits.specs.Number.{digits}
use Rattle.fumen_pages.specs.declared.page.Page.{Page}
use Rattle.fumen_pages.specs.Next.{next}
use Rattle.fumen_pages.specs.Record.{unchanged, CutsOther}
use Rattle.fumen_pages.specs.Sound.{IsSound}
use Rattle.fumen_pages.specs.Tail.{Tail}

-- ds is of two parts, one behind the other
pub record Then (A B : List ℕ → Type 0) (ds : List ℕ) : Type 0 where
  pub front : List ℕ
  pub back : List ℕ
  pub divided : ds ≡ front ++ back
  pub one : A front
  pub other : B back

-- a record other than the unchanged run, which promises no page
pub record IsRecorded (d : Dialect) (before cells : List ℕ) (after : ℕ) (ds : List ℕ) : Type 0 where
  pub none : after ≡ 0
  pub cuts : CutsOther d before cells ds

-- the unchanged run, and one digit that promises this many pages
pub record IsUnchanged (d : Dialect) (before cells : List ℕ) (after : ℕ) (ds : List ℕ) : Type 0 where
  pub same : cells ≡ before
  pub few : after < 64
  pub spelled : ds ≡ unchanged d ++ digits 1 after

-- no digits, where the page is one of those that are promised
pub record IsPromised (before cells : List ℕ) (left after : ℕ) (ds : List ℕ) : Type 0 where
  pub same : cells ≡ before
  pub fewer : after ≡ left
  pub none : ds ≡ []

-- ds spells the cells of a page, where these cells are left before it and so many pages are promised to be
-- unchanged, and where after it so many are
abbrev pub SpellsCells : Dialect → List ℕ → ℕ → List ℕ → ℕ → List ℕ → Type 0
SpellsCells d before zero cells after ds = IsRecorded d before cells after ds ⊎ IsUnchanged d before cells after ds
SpellsCells d before (suc left) cells after ds = IsPromised before cells left after ds

-- ds spells these pages, where these cells are left before them and so many pages are promised
unfoldable pub SpellsFumen : Dialect → List ℕ → ℕ → List Page → List ℕ → Type 0
SpellsFumen d before promised [] ds = (promised ≡ 0) × (ds ≡ [])
SpellsFumen d before promised (page ∷ pages) ds =
    (after : ℕ)
    × IsSound d page
    × Then (SpellsCells d before promised page.cells after)
    (Then (Tail d page) (SpellsFumen d (next d page) after pages)) ds
