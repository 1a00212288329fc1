-- The first fault of a text, by what stands whole before it and what is due there.
use Rattle.std.specs.Prelude.{◌≡◌, ℕ, zero, suc, ◌+◌, ◌<◌, List, [], ◌∷◌, length, Some, None, ◌⊎◌}
use Rattle.fumen_digits.specs.declared.dialect.Dialect.{Dialect}
use Rattle.fumen_digits.specs.Framing.{digits_in}
use Rattle.fumen_digits.specs.Number.{Stands}
use Rattle.fumen_digits.specs.declared.fault.FumenFault.{FumenFault}
use Rattle.fumen_digits.specs.Fault.{IsNumberFault}
use Rattle.fumen_digits.specs.declared.fault.FumenFault.TheVariants.{NoFumen, TooManyPages}
use Rattle.fumen_pages.specs.declared.page.Page.{Page}
use Rattle.fumen_pages.specs.Next.{next}
use Rattle.fumen_pages.specs.Record.{unchanged}
use Rattle.fumen_pages.specs.Sound.{IsSound}
use Rattle.fumen_pages.specs.Tail.{Tail}
use Rattle.fumen_pages.specs.Faults.{IsRecordFault, IsTailFault}
use Rattle.fumen_text.specs.Spells.{Then, SpellsCells}
use Rattle.fumen_pages.specs.Lists.{most_pages}
use Rattle.fumen_text.specs.Texts.{empty_page}

-- ds spells these pages whole, which leave these cells, and so many pages promised
unfoldable pub SpellsWhole : Dialect → List ℕ → ℕ → List Page → List ℕ → ℕ → List ℕ → Type 0
SpellsWhole d before promised [] cells after ds = (cells ≡ before) × (after ≡ promised) × (ds ≡ [])
SpellsWhole d before promised (page ∷ pages) cells after ds =
    (between : ℕ)
    × IsSound d page
    × Then (SpellsCells d before promised page.cells between)
    (Then (Tail d page) (SpellsWhole d (next d page) between pages cells after)) ds

-- pages stand whole from a place up to k, and leave these cells, and so many pages promised
pub record PagesStand (d : Dialect) (ds : List ℕ) (place : ℕ) (before : List ℕ) (promised : ℕ) (pages : List Page)
    (k : ℕ) (cells : List ℕ) (after : ℕ) : Type 0 where
  pub text : List ℕ
  pub stands : Stands ds place text k
  pub spells : SpellsWhole d before promised pages cells after text

-- one more page is due at a place: digits are left, or a page is promised
abbrev pub IsDue : List ℕ → ℕ → ℕ → Type 0
IsDue ds k promised = (k < length ds) ⊎ (0 < promised)

-- the cells of a page are spelled from place k up to place j, where its tail is due
pub record CellsStand (d : Dialect) (ds : List ℕ) (k : ℕ) (before : List ℕ) (promised : ℕ) (j : ℕ) (cells : List ℕ)
    (after : ℕ) : Type 0 where
  pub text : List ℕ
  pub stands : Stands ds k text j
  pub spells : SpellsCells d before promised cells after text

-- the fault of the cells of a page that is due at a place: that of its record, or of the digit behind the
-- unchanged run. A promised page has none.
abbrev pub IsCellsFault : Dialect → List ℕ → ℕ → List ℕ → ℕ → FumenFault → Type 0
IsCellsFault d ds k before zero f =
    IsRecordFault d ds k before f ⊎ ((j : ℕ) × Stands ds k (unchanged d) j × IsNumberFault ds j 1 f)
IsCellsFault d ds k before (suc left) f = ⊥

-- the fault of a page that is due at a place: that of its cells, or of its tail behind them
abbrev pub IsPageFault : Dialect → List ℕ → ℕ → ℕ → List ℕ → ℕ → FumenFault → Type 0
IsPageFault d ds number k before promised f =
    IsCellsFault d ds k before promised f
    ⊎ ((j : ℕ) × (cells : List ℕ) × (after : ℕ) × CellsStand d ds k before promised j cells after
    × IsTailFault d number ds j f)

-- the fault of some digits: pages stand whole up to a place, and one more is due there, which is one too
-- many, or has a fault
pub record IsDigitsFault (d : Dialect) (ds : List ℕ) (f : FumenFault) : Type 0 where
  pub pages : List Page
  pub k : ℕ
  pub cells : List ℕ
  pub promised : ℕ
  pub stand : PagesStand d ds 0 empty_page 0 pages k cells promised
  pub due : IsDue ds k promised
  pub fault :
      ((length pages ≡ most_pages) × (f ≡ TooManyPages))
      ⊎ ((length pages < most_pages) × IsPageFault d ds (length pages + 1) k cells promised f)

-- the fault of a text: no prefix stands in it, or its digits have a fault
abbrev pub IsTextFault : List ℕ → FumenFault → Type 0
IsTextFault text f =
    ((digits_in text ≡ None) × (f ≡ NoFumen))
    ⊎ ((d : Dialect) × (ds : List ℕ) × (digits_in text ≡ Some (d, ds)) × IsDigitsFault d ds f)
