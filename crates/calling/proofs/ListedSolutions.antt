-- A search passes the list of a problem's solutions, one after the other.
use Rattle.std.proofs.Common.{◌≡◌, ℕ, ◌+◌, ◌<◌, List, [], ◌∷◌, length, ap, subst, ◌∙◌, arith}
use Rattle.std.specs.Prelude.{None}
use Rattle.srs.specs.declared.placement.Placement.{Placement}
use Rattle.problem.specs.declared.problem.Problem.{Problem}
use Rattle.problem.specs.SolutionList.{IsList, View}
use Rattle.enumerate.specs.declared.search.Search.{Search}
use Rattle.enumerate.specs.ViewOf.{solutions, view_of}
use Rattle.calling.specs.Counts.{IsSolutionCount}

abbrev pub whole_view : Problem → View
whole_view problem = record { problem = problem; queue = None; bound = None }

-- so many of the solutions were passed, and the others are still to come
pub record HasPassed (problem : Problem) (search : Search) (count : ℕ) : Type 0 where
  pub whole : List (List Placement)
  pub listed : IsList (whole_view problem) whole
  pub passed : count + length (solutions search) ≡ length whole

module _ (problem : Problem) (search : Search) where
  pub none_passed : view_of search ≡ whole_view problem → IsList (view_of search) (solutions search) → HasPassed problem search 0
  none_passed view list = record { whole = solutions search; listed = subst (λ v. IsList v (solutions search)) view list; passed = omega arith }

  pub one_passed : (next : Search) (s : List Placement) (count : ℕ) → HasPassed problem search count → solutions search ≡ s ∷ solutions next → HasPassed problem next (count + 1)
  one_passed next s count is first =
      let passed = is.passed in
      let one : length (solutions search) ≡ 1 + length (solutions next) = ap length first ∙ omega arith in
      record { whole = is.whole; listed = is.listed; passed = omega (arith, passed, one) }

  pub all_passed : (limit count : ℕ) → count < limit → HasPassed problem search count → solutions search ≡ [] → IsSolutionCount problem limit count
  all_passed limit count below is none =
      let passed = is.passed in
      let empty : length (solutions search) ≡ 0 = ap length none in
      record { solutions = is.whole; listed = is.listed; counted = omega (arith, passed, empty, below) }

  pub limit_passed : (limit count : ℕ) → count ≡ limit → HasPassed problem search count → IsSolutionCount problem limit limit
  limit_passed limit count same is = let passed = is.passed in record { solutions = is.whole; listed = is.listed; counted = omega (arith, passed, same) }
