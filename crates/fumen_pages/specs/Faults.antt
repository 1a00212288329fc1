-- The first fault of a page, by what stands before it and what is due there, and where the parts of a page stand.
use Rattle.std.specs.Prelude.{◌≡◌, ℕ, ◌+◌, ◌-◌, ◌*◌, ◌<◌, ◌≤◌, List, ◌++◌, length, take, true, false, ◌⊎◌}
use Rattle.std.specs.List.{list_all, flat_map, AllByRecursion}
use Rattle.fumen_digits.specs.declared.dialect.Dialect.{Dialect}
use Rattle.fumen_digits.specs.Dialect.{page_cell_count}
use Rattle.fumen_digits.specs.Number.{Stands, NumberStands}
use Rattle.fumen_digits.specs.declared.fault.FumenFault.{FumenFault}
use Rattle.fumen_digits.specs.Fault.{IsNumberFault}
use Rattle.fumen_digits.specs.declared.fault.FumenFault.TheVariants.{BadDigit, Truncated, RunPastEnd, BadCell, BadAction, PieceOutside}
use Rattle.fumen_comment.specs.Faults.{IsCommentFault}
use Rattle.fumen_pages.specs.declared.page.Page.{Page}
use Rattle.fumen_pages.specs.declared.action.Action.{Action}
use Rattle.fumen_pages.specs.declared.record.CellsRead.{CellsRead}
use Rattle.fumen_pages.specs.declared.record.CellsFault.{CellsFault}
use Rattle.fumen_pages.specs.declared.record.CellsFault.TheVariants as bad_cells
use Rattle.fumen_pages.specs.Cells.{shown}
use Rattle.fumen_pages.specs.Action.{action_end, SaysAction, SaysOutside}
use Rattle.fumen_pages.specs.Record.{Run, IsCellRun, stays_colour, run_digits, IsRecord}
use Rattle.fumen_pages.specs.Tail.{Tail}

-- these cells are spelled by the record at a place, from the old ones
pub record RecordStands (dialect : Dialect) (ds : List ℕ) (place : ℕ) (old : List ℕ) (read : CellsRead) : Type 0 where
  pub text : List ℕ
  pub stands : Stands ds place text read.place
  pub spells : IsRecord dialect old read.cells read.unchanged text

-- some runs stand at a place, up to place k, and one more is due there, over the cells that are left of the old ones
pub record IsRunDue (n : ℕ) (ds : List ℕ) (place : ℕ) (old : List ℕ) (k : ℕ) (left : List ℕ) : Type 0 where
  pub runs : List Run
  pub each : AllByRecursion (IsCellRun n) runs
  pub from : old ≡ flat_map (λ run. run.old) runs ++ left
  pub some : 1 ≤ length left
  pub runs_stand : Stands ds place (flat_map (run_digits n) runs) k

-- a run of this many cells stands at a place, with this difference and 8
pub record RunStands (n : ℕ) (ds : List ℕ) (place count shift : ℕ) : Type 0 where
  pub some : 1 ≤ count
  pub most : count ≤ n
  pub stands : NumberStands ds place 2 (shift * n + (count - 1))

-- a run is longer than the cells that are left
pub record IsLongRun (n : ℕ) (ds : List ℕ) (place : ℕ) (left : List ℕ) : Type 0 where
  pub count : ℕ
  pub shift : ℕ
  pub stands : RunStands n ds place count shift
  pub long : length left < count

-- a run that fits makes a cell below 0 or above 8
pub record IsBadRun (n : ℕ) (ds : List ℕ) (place : ℕ) (left : List ℕ) : Type 0 where
  pub count : ℕ
  pub shift : ℕ
  pub stands : RunStands n ds place count shift
  pub fits : count ≤ length left
  pub bad : list_all (stays_colour shift) (take count left) ≡ false

-- the fault of a run that is due at a place: that of its number, or that it is too long, or makes a bad cell
abbrev pub IsRunFault : ℕ → List ℕ → ℕ → List ℕ → FumenFault → Type 0
IsRunFault n ds place left f =
    IsNumberFault ds place 2 f ⊎ (IsLongRun n ds place left × (f ≡ RunPastEnd place))
    ⊎ (IsBadRun n ds place left × (f ≡ BadCell place))

-- the fault of the runs at a place, over the old cells: that of a run that is due
abbrev pub IsRunsFault : ℕ → List ℕ → ℕ → List ℕ → FumenFault → Type 0
IsRunsFault n ds place old f = (k : ℕ) × (left : List ℕ) × IsRunDue n ds place old k left × IsRunFault n ds k left f

-- the fault of the record at a place
abbrev pub IsRecordFault : Dialect → List ℕ → ℕ → List ℕ → FumenFault → Type 0
IsRecordFault dialect ds place old f = IsRunsFault (page_cell_count dialect) ds place (shown dialect old) f

-- a fault of a record among those of a text
abbrev pub cells_fault : CellsFault → FumenFault
cells_fault (bad_cells.BadDigit place) = BadDigit place
cells_fault (bad_cells.Truncated place) = Truncated place
cells_fault (bad_cells.RunPastEnd place) = RunPastEnd place
cells_fault (bad_cells.BadCell place) = BadCell place

-- the tail of a page stands at a place, up to end
pub record TailStands (dialect : Dialect) (ds : List ℕ) (place : ℕ) (page : Page) (end : ℕ) : Type 0 where
  pub text : List ℕ
  pub stands : Stands ds place text end
  pub spells : Tail dialect page text

-- a number stands at a place that is no action's
pub record IsLargeAction (dialect : Dialect) (ds : List ℕ) (place : ℕ) : Type 0 where
  pub number : ℕ
  pub stands : NumberStands ds place 3 number
  pub large : action_end dialect ≤ number

-- a number stands at a place that names a piece with a cell outside
pub record IsOutsideAction (dialect : Dialect) (ds : List ℕ) (place : ℕ) : Type 0 where
  pub number : ℕ
  pub stands : NumberStands ds place 3 number
  pub outside : SaysOutside dialect number

-- the number of an action with a comment stands at a place, so that its comment is due behind it
pub record IsCommentDue (dialect : Dialect) (ds : List ℕ) (place : ℕ) : Type 0 where
  pub number : ℕ
  pub stands : NumberStands ds place 3 number
  pub action : Action
  pub says : SaysAction dialect number action
  pub flagged : action.comment ≡ true

-- the fault of the tail at a place, of a page counted from 1: that of its number, or of what the number says, or of the
-- comment that is due
abbrev pub IsTailFault : Dialect → ℕ → List ℕ → ℕ → FumenFault → Type 0
IsTailFault dialect number ds place f =
    IsNumberFault ds place 3 f
    ⊎ (IsLargeAction dialect ds place × (f ≡ BadAction place))
    ⊎ (IsOutsideAction dialect ds place × (f ≡ PieceOutside number))
    ⊎ (IsCommentDue dialect ds place × IsCommentFault ds (place + 3) f)
