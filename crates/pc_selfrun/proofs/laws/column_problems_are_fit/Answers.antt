-- Seven columns are drawn, and each has a problem with a meaning.
use Rattle.std.proofs.Common.{arith}
use Rattle.sample_pages.specs.Pages.{state_behind_pages}
use Rattle.sample_pages.proofs.CallerLemmas.{draw_below}
use Rattle.pc_selfrun.proofs.ColumnProblem.{column_fit}
use Rattle.pc_selfrun.proofs.laws.column_problems_are_fit.Goals as goal

pub returns : goal.returns
returns c = record {
  drawn = λ number pages. draw_below (state_behind_pages pages number) 1 7 (omega arith);
  fit = column_fit;
}
