-- The record of a page's cells: runs of cells, each with one difference to the page before.
use Rattle.std.specs.Prelude.{◌≡◌, ℕ, ◌+◌, ◌-◌, ◌*◌, ◌≤◌, List, length, map, Bool, true, false, ◌&&◌, nat_le, IsTrue}
use Rattle.std.specs.List.{list_all, flat_map, AllByRecursion}
use Rattle.fumen_digits.specs.declared.dialect.Dialect.{Dialect}
use Rattle.fumen_digits.specs.Dialect.{page_cell_count}
use Rattle.fumen_digits.specs.Number.{digits}
use Rattle.fumen_pages.specs.Cells.{shown, AreCells}

-- a run: its old cells, and their difference to the new ones, to which 8 is added
pub record Run : Type 0 where
  pub old : List ℕ
  pub shift : ℕ

-- cells with the difference added
abbrev pub moved_by : ℕ → List ℕ → List ℕ
moved_by shift cells = map (λ cell. cell + shift - 8) cells

-- a cell with the difference added is a colour, 0 to 8
abbrev pub stays_colour : ℕ → ℕ → Bool
stays_colour shift cell = nat_le 8 (cell + shift) && nat_le (cell + shift) 16

-- a run of 1 to n cells
pub record IsCellRun (n : ℕ) (run : Run) : Type 0 where
  pub some : 1 ≤ length run.old
  pub most : length run.old ≤ n
  pub colours : IsTrue (list_all (stays_colour run.shift) run.old)

-- the digits of a run, on pages of n cells
abbrev pub run_digits : ℕ → Run → List ℕ
run_digits n run = digits 2 (run.shift * n + (length run.old - 1))

-- ds cuts the old cells into runs, with these new cells
pub record CutsInto (n : ℕ) (runs : List Run) (old new ds : List ℕ) : Type 0 where
  pub each : AllByRecursion (IsCellRun n) runs
  pub from : old ≡ flat_map (λ run. run.old) runs
  pub to : new ≡ flat_map (λ run. moved_by run.shift run.old) runs
  pub spelled : ds ≡ flat_map (run_digits n) runs

-- ds spells the new cells of a page from the old ones
pub record Cuts (dialect : Dialect) (old new ds : List ℕ) : Type 0 where
  pub old_cells : AreCells dialect old
  pub new_cells : AreCells dialect new
  pub runs : List Run
  pub cut : CutsInto (page_cell_count dialect) runs (shown dialect old) (shown dialect new) ds

-- the single run of all cells that changes none of them: `vh`, or `7e`
abbrev pub unchanged : Dialect → List ℕ
unchanged dialect = digits 2 (8 * page_cell_count dialect + (page_cell_count dialect - 1))

-- another one than that
pub record CutsOther (dialect : Dialect) (old new ds : List ℕ) : Type 0 where
  pub cuts : Cuts dialect old new ds
  pub other : ds ≡ unchanged dialect → ⊥

-- ds is the unchanged run, or another record
abbrev pub IsRecord : Dialect → List ℕ → List ℕ → Bool → List ℕ → Type 0
IsRecord dialect old new true ds = (new ≡ old) × (ds ≡ unchanged dialect)
IsRecord dialect old new false ds = CutsOther dialect old new ds
