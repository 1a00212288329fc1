-- The problem of a column that is drawn has a meaning, and four placements are needed.
use Rattle.std.proofs.Common.{◌≡◌, ◌∙◌, ℕ, ◌/◌, ◌<◌, List, Result, Ok, ap, arith}
use Rattle.well.specs.Counts.{empties_below, lowest_full, lowest_filled_from}
use Rattle.queue_pattern.specs.declared.element.Element.{Element}
use Rattle.queue_pattern.specs.declared.fault.PatternFault.{PatternFault}
use Rattle.queue_pattern.specs.Pattern.{elements_of}
use Rattle.queue_pattern.specs.Queues.{queue_len}
use Rattle.problem.specs.declared.problem.Problem.{Problem}
use Rattle.problem.specs.Problem.{IsFit, empties_of, needed_of}
use Rattle.pc_selfrun.specs.Problem.{IsColumnProblem}
use Rattle.pc_selfrun.proofs.ColumnFacts.{five_of_all, no_full_row, no_high_cell, pattern_read, sixteen_empty}

same_ok : (xs ys : List Element) → ◌≡◌ {A = Result (List Element) PatternFault} (Ok xs) (Ok ys) → xs ≡ ys
same_ok xs ys e = cc

pub elements_are : (column : ℕ) (problem : Problem) → IsColumnProblem column problem → elements_of problem.pattern ≡ five_of_all
elements_are column problem named = same_ok _ _ (named.queues ∙ pattern_read)

module _ (column : ℕ) (problem : Problem) (within : column < 7) (named : IsColumnProblem column problem) where
  empties_are : empties_of problem ≡ 16
  empties_are = (λ i. empties_below (named.field i) (named.height i)) ∙ sixteen_empty column within

  pub four_needed : needed_of problem ≡ 4
  four_needed = ap (λ n. n / 4) empties_are

  pub column_fit : IsFit problem
  column_fit =
      let height = named.height in
      let needed = four_needed in
      let five : queue_len (elements_of problem.pattern) ≡ 5 = ap queue_len (elements_are column problem named) in
      record {
        field = record {
          fit = record { some = omega (arith, height); low = omega (arith, height) };
          below = (λ i. lowest_filled_from (named.field i) (named.height i)) ∙ no_high_cell column within;
          open_rows = ap lowest_full named.field ∙ no_full_row column within;
        };
        enough = λ whole. omega (arith, needed, five);
      }
