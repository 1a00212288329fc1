-- What `selfrun` writes.
use Rattle.std.specs.Prelude.{◌≡◌, ℕ, true, List, length, None}
use Rattle.srs.specs.declared.placement.Placement.{Placement}
use Rattle.fumen_digits.specs.declared.dialect.Dialect.TheVariants.{V115}
use Rattle.fumen_text.specs.Written.{written}
use Rattle.sample_pages.specs.Pages.{column_drawn, sample_pages}
use Rattle.problem.specs.declared.problem.Problem.{Problem}
use Rattle.problem.specs.SolutionList.{IsList}
use Rattle.pc_selfrun.specs.Lines.{selfrun_form}
use Rattle.pc_selfrun.specs.Problem.{IsColumnProblem}

-- Of so many pages from a number: how many they are, the length of their text, that it reads as them, the column that
-- is drawn behind them, and the length of the list of all solutions of its problem. That the text reads as the pages
-- is the law `made_pages_are_read_again`.
pub record IsSelfrunOutput (number pages : ℕ) (output : List ℕ) : Type 0 where
  pub problem : Problem
  pub named : IsColumnProblem (column_drawn number pages) problem
  pub sequences : List (List Placement)
  pub list : IsList (record { problem = problem; queue = None; bound = None }) sequences
  pub lines : output ≡ selfrun_form (length (sample_pages number pages))
      (length (written V115 (sample_pages number pages))) true (column_drawn number pages) (length sequences)
