-- What `selfrun` adds to the counter of floods.
use Rattle.std.specs.Prelude.{◌≡◌, ℕ, None}
use Rattle.sample_pages.specs.Pages.{column_drawn}
use Rattle.problem.specs.declared.problem.Problem.{Problem}
use Rattle.enumerate.specs.Work.{pairs}
use Rattle.pc_faults.specs.declared.status.Status.{Status}
use Rattle.pc_faults.specs.declared.status.Status.TheVariants.{NoMemory}
use Rattle.pc_selfrun.specs.Problem.{IsColumnProblem}

-- the floods of a search that goes to its end: all pairs of an unfinished live prefix and a kind that may come next
pub record IsWholeSearch (column floods : ℕ) : Type 0 where
  pub problem : Problem
  pub named : IsColumnProblem column problem
  pub all : floods ≡ pairs problem None

-- no floods where memory is wanted, and else those of the search for all solutions
abbrev pub IsSelfrunWork : (number pages : ℕ) → Status → ℕ → Type 0
IsSelfrunWork number pages NoMemory floods = floods ≡ 0
IsSelfrunWork number pages other floods = IsWholeSearch (column_drawn number pages) floods
