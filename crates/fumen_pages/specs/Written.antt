-- What is written of a page: the longest runs of its cells, and the number of its action.
use Rattle.std.specs.Prelude.{◌≡◌, ℕ, suc, ◌+◌, ◌-◌, ◌*◌, List, [], ◌∷◌, ◌==◌, if◌then◌else◌, Option, Some, None}
use Rattle.std.specs.List.{flat_map}
use Rattle.fumen_digits.specs.declared.dialect.Dialect.{Dialect}
use Rattle.fumen_digits.specs.Dialect.{page_cell_count}
use Rattle.srs.specs.declared.placement.Placement.{Placement}
use Rattle.srs.specs.Piece.{piece_code}
use Rattle.srs.specs.Cells.{moved, pivot_of}
use Rattle.fumen_pages.specs.declared.page.Page.{Page}
use Rattle.fumen_pages.specs.Cells.{place_of, shown}
use Rattle.fumen_pages.specs.Record.{Run, run_digits}
use Rattle.fumen_pages.specs.Action.{rotation_code, written_by, flags_of}
use Rattle.fumen_pages.specs.Sound.{action_of}

-- ---- cells

-- the difference of a new cell to the old one, and 8
abbrev pub colour_difference : ℕ → ℕ → ℕ
colour_difference old new = new + 8 - old

-- runs with one more cell before them, which goes into the first run where its difference is the same
unfoldable pub extended : ℕ → ℕ → List Run → List Run
extended cell shift [] = record { old = cell ∷ []; shift = shift } ∷ []
extended cell shift (run ∷ runs) =
    if run.shift == shift then record { old = cell ∷ run.old; shift = shift } ∷ runs
    else record { old = cell ∷ []; shift = shift } ∷ run ∷ runs

-- the runs of old and new cells, each as long as it can be
unfoldable pub longest : List ℕ → List ℕ → List Run
longest [] new = []
longest (cell ∷ old) [] = []
longest (cell ∷ old) (value ∷ new) = extended cell (colour_difference cell value) (longest old new)

-- how many cells from the first one on have this difference and 8
unfoldable pub same_count : ℕ → List ℕ → List ℕ → ℕ
same_count shift [] new = 0
same_count shift (cell ∷ old) [] = 0
same_count shift (cell ∷ old) (value ∷ new) =
    if colour_difference cell value == shift then suc (same_count shift old new) else 0

-- runs side by side have different differences
abbrev pub AreApart : List Run → Type 0
AreApart [] = Unit {0}
AreApart (run ∷ []) = Unit {0}
AreApart (run ∷ next ∷ runs) = (run.shift ≡ next.shift → ⊥) × AreApart (next ∷ runs)

-- the digits that are written for the new cells of a page
unfoldable pub written_record : Dialect → List ℕ → List ℕ → List ℕ
written_record dialect old new =
    flat_map (run_digits (page_cell_count dialect)) (longest (shown dialect old) (shown dialect new))

-- ---- the action

-- the part of an action's number that names its operation: without one it is 0
abbrev pub operation_number : Dialect → Option Placement → ℕ
operation_number dialect None = 0
operation_number dialect (Some p) =
    piece_code p.piece + 8 * rotation_code p.rotation
    + 32 * place_of dialect (moved (pivot_of p) (written_by p.piece p.rotation))

-- the number that is written for a page's action
unfoldable pub action_number_of : Dialect → Page → ℕ
action_number_of dialect page =
    operation_number dialect page.operation + 32 * page_cell_count dialect * flags_of (action_of page)
