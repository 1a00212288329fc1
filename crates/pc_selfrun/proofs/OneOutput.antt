-- What `selfrun` writes is determined by its number and the number of pages.
use Rattle.std.proofs.Common.{◌≡◌, ◌∙◌, ℕ, List, true, length, None, sym, ap, rules}
use Rattle.srs.proofs.CallerLemmas.{IsRisingListOf-unique, sequence_cmp-total}
use Rattle.srs.specs.declared.placement.Placement.{Placement}
use Rattle.srs.specs.Order.{sequence_cmp}
use Rattle.fumen_digits.specs.declared.dialect.Dialect.TheVariants.{V115}
use Rattle.fumen_text.specs.Written.{written}
use Rattle.sample_pages.specs.Pages.{column_drawn, sample_pages}
use Rattle.problem.specs.declared.problem.Problem.{Problem}
use Rattle.problem.specs.SolutionList.{IsList, IsSolutionAbove, View}
use Rattle.pc_selfrun.specs.Lines.{selfrun_form}
use Rattle.pc_selfrun.specs.Output.{IsSelfrunOutput}
use Rattle.pc_selfrun.specs.Problem.{IsColumnProblem}

abbrev all_of : Problem → View
all_of problem = record { problem = problem; queue = None; bound = None }

-- two problems of one column have the same solutions
solution_of_same : (column : ℕ) (one other : Problem) → IsColumnProblem column one → IsColumnProblem column other → (s : List Placement) → IsSolutionAbove (all_of one) s → IsSolutionAbove (all_of other) s
solution_of_same column one other first second s m = search rules

list_of_same : (column : ℕ) (one other : Problem) → IsColumnProblem column one → IsColumnProblem column other → (xs : List (List Placement)) → IsList (all_of one) xs → IsList (all_of other) xs
list_of_same column one other first second xs list = record {
  rising = list.rising;
  members = λ s. (
    λ among. solution_of_same column one other first second s ((list.members s).0 among),
    λ m. (list.members s).1 (solution_of_same column other one second first s m),
  );
}

pub one_selfrun_output : (number pages : ℕ) (a b : List ℕ) → IsSelfrunOutput number pages a → IsSelfrunOutput number pages b → a ≡ b
one_selfrun_output number pages a b first second =
    let column = column_drawn number pages in
    let list = list_of_same column first.problem second.problem first.named second.named first.sequences first.list in
    let same : first.sequences ≡ second.sequences =
    IsRisingListOf-unique sequence_cmp sequence_cmp-total (IsSolutionAbove (all_of second.problem)) first.sequences second.sequences list second.list in
    first.lines
    ∙ ap (λ (xs : List (List Placement)). selfrun_form (length (sample_pages number pages)) (length (written V115 (sample_pages number pages))) true column (length xs)) same
    ∙ sym second.lines
