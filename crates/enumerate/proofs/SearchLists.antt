-- The list of what a search has still to give.
use Rattle.std.proofs.Common.{◌≡◌, ℕ, zero, suc, ◌≤◌, Bool, List, [], ◌∷◌, refl, sym, ap, subst, ◌∙◌, arith, rules}
use Rattle.std.specs.Prelude.{Option, Some, None, filter, find, ◌==◌}
use Rattle.std.proofs.lemmas.Bool.{cases_Bool, cond-false}
use Rattle.srs.specs.declared.piece.Piece.{Piece}
use Rattle.srs.specs.Piece.{all_pieces}
use Rattle.srs.specs.declared.placement.Placement.{Placement}
use Rattle.srs.specs.Order.{sequence_cmp}
use Rattle.srs.specs.Rising.{is_above, IsRisingListOf}
use Rattle.srs.proofs.CallerLemmas.{filter-each, filter-false, filter-true, find-false, find-true, filter_above-next, IsRisingListOf-filter, sequence_cmp-total}
use Rattle.queue_pattern.proofs.CallerLemmas.{queues-singles}
use Rattle.problem.specs.declared.problem.Problem.{Problem}
use Rattle.problem.specs.Problem.{IsFit, needed_of}
use Rattle.problem.specs.Solution.{IsSolution}
use Rattle.problem.specs.SolutionList.{IsList}
use Rattle.enumerate.specs.SearchState.{SearchState, is_live, root_of}
use Rattle.enumerate.specs.Events.{begun, enter, found, floods, sought, tried_in_turn}
use Rattle.enumerate.specs.Rest.{whole_from}
use Rattle.enumerate.specs.Work.{pairs}
use Rattle.enumerate.proofs.FloodCounts.{floods-sought}
use Rattle.problem.proofs.CallerLemmas.{IsLow, filled-low}
use Rattle.enumerate.proofs.Members.{IsSolved, complete, sound}
use Rattle.problem.proofs.CallerLemmas.{long-needed}
use Rattle.enumerate.proofs.Pairs.{floods-begun}
use Rattle.enumerate.proofs.Solutions.{sols, sols-rising}
use Rattle.enumerate.proofs.Sought.{found-sought}
use Rattle.enumerate.proofs.TryLemmas.{not-zero}
use Rattle.enumerate.proofs.Walks.{finds-enter, floods-tick, found-tick, prefixed-nil}

found-begun : (left : ℕ) (n : SearchState) → found (begun (suc left) n) ≡ sols (suc left) n
unfolding begun enter
found-begun left n = sym (found-tick (is_live left n) (tried_in_turn (enter left) [] n all_pieces)) ∙ (finds-enter (suc left)).same [] n ∙ prefixed-nil (sols (suc left) n)

begun-none : (n : SearchState) → found (begun zero n) ≡ []
unfolding begun found
begun-none n = refl

sought-none : (n : SearchState) (given : List Placement) → found (sought zero [] n given) ≡ []
unfolding sought found
sought-none n given = refl

-- from after a sequence on
after-sequence : (left : ℕ) (n : SearchState) (given : List Placement) → found (sought left [] n given) ≡ filter (is_above sequence_cmp (Some given)) (found (begun left n))
after-sequence zero n given = sought-none n given ∙ sym (ap (filter (is_above sequence_cmp (Some given))) (begun-none n))
after-sequence (suc left) n given = search (rules, found-sought, prefixed-nil, found-begun)

-- at its start a search has what the whole list has above the given sequence
pub listed-start : (problem : Problem) (queue : Option (List Piece)) (after : Option (List Placement)) → found (whole_from problem queue after) ≡ filter (is_above sequence_cmp after) (found (whole_from problem queue None))
unfolding whole_from
listed-start problem queue after = search (rules, filter-each, after-sequence)

pub heads : {A : Type 0} {x y : A} {xs ys : List A} → x ∷ xs ≡ y ∷ ys → x ≡ y
heads e = cc

pub tails : {A : Type 0} {x y : A} {xs ys : List A} → x ∷ xs ≡ y ∷ ys → xs ≡ ys
tails e = cc

-- what a filter begins with is what a search finds
pub head-found : {A : Type 0} (test : A → Bool) (xs : List A) (y : A) (ys : List A) → filter test xs ≡ y ∷ ys → find test xs ≡ Some y
head-found test [] y ys e = cc
head-found test (x ∷ xs) y ys e =
    search (rules, (cases_Bool (test x)), (find-true test x xs), heads, (filter-true test x xs), (find-false test x xs), (head-found test xs y ys), (filter-false test x xs))

rows-left : (n : SearchState) → (n.rows ≡ 0 → ⊥) → sols zero n ≡ []
unfolding sols
rows-left n some = cond-false (n.rows == 0) ([] ∷ []) [] (not-zero n.rows some)

-- ---- the whole list

module _ (problem : Problem) (fit : IsFit problem) (queue : Option (List Piece)) where
  pub root-low : IsLow (root_of problem queue).field (root_of problem queue).rows
  unfolding root_of
  root-low = filled-low problem.well problem.height (omega (arith, fit.field.fit.low)) fit.field.below

  to-solution : (s : List Placement) → IsSolved (needed_of problem) (root_of problem queue) s → IsSolution problem queue s
  unfolding root_of
  to-solution s solved = search (rules, queues-singles)

  pub from-solution : (s : List Placement) → IsSolution problem queue s → IsSolved (needed_of problem) (root_of problem queue) s
  unfolding root_of
  from-solution s solution = search (rules, long-needed, queues-singles)

  no-rows : (root_of problem queue).rows ≡ 0 → ⊥
  unfolding root_of
  no-rows none = omega (arith, none, fit.field.fit.some)

  -- where placements are needed
  pub sols-list : IsRisingListOf sequence_cmp (IsSolution problem queue) (sols (needed_of problem) (root_of problem queue))
  sols-list = record {
    rising = sols-rising (needed_of problem) (root_of problem queue);
    members = λ s. (
      λ among. to-solution s (sound (needed_of problem) (root_of problem queue) root-low (λ none. absurd (no-rows none)) s among),
      λ solution. complete (needed_of problem) (root_of problem queue) s root-low (from-solution s solution),
    );
  }

  sols-begun : (k : ℕ) → sols k (root_of problem queue) ≡ found (begun k (root_of problem queue))
  sols-begun zero = search (rules, (begun-none (root_of problem queue)), (rows-left (root_of problem queue) no-rows))
  sols-begun (suc k) = sym (found-begun k (root_of problem queue))

  -- the whole search gives the rising list of all solutions
  pub whole-list : IsRisingListOf sequence_cmp (IsSolution problem queue) (found (whole_from problem queue None))
  unfolding whole_from
  whole-list = subst (IsRisingListOf sequence_cmp (IsSolution problem queue)) (sols-begun (needed_of problem)) sols-list

  -- what is above the bound
  pub above-list : (bound : Option (List Placement)) (l : List (List Placement)) → l ≡ filter (is_above sequence_cmp bound) (found (whole_from problem queue None)) → IsList (record { problem = problem; queue = queue; bound = bound }) l
  above-list bound l e =
      let list = IsRisingListOf-filter sequence_cmp sequence_cmp-total (IsSolution problem queue) (is_above sequence_cmp bound) (found (whole_from problem queue None)) whole-list in
      let kept : IsList (record { problem = problem; queue = queue; bound = bound }) (filter (is_above sequence_cmp bound) (found (whole_from problem queue None))) = record {
        rising = list.rising;
        members = λ s. (
          λ among. let both = (list.members s).0 among in record { solution = both.0; above = both.1 },
          λ one. (list.members s).1 (one.solution, one.above),
        );
      } in
      subst (IsList (record { problem = problem; queue = queue; bound = bound })) (sym e) kept

  -- after one more
  pub listed-next : (bound : Option (List Placement)) (s : List Placement) (rest : List (List Placement)) → s ∷ rest ≡ filter (is_above sequence_cmp bound) (found (whole_from problem queue None)) →
      rest ≡ filter (is_above sequence_cmp (Some s)) (found (whole_from problem queue None))
  listed-next bound s rest e =
      search (rules, (filter_above-next sequence_cmp sequence_cmp-total bound (found (whole_from problem queue None)) s whole-list.rising (head-found (is_above sequence_cmp bound) (found (whole_from problem queue None)) s rest (sym e))), tails)

-- ---- floods

root-played : (problem : Problem) (queue : Option (List Piece)) → (root_of problem queue).line.played ≡ []
unfolding root_of
root-played problem queue = search rules

none-floods : (n : SearchState) (given : List Placement) → floods (sought zero [] n given) ≡ 0
unfolding sought floods
none-floods n given = refl

entered-floods : (left : ℕ) (n : SearchState) → floods (enter (suc left) [] n) ≡ floods (begun (suc left) n)
unfolding enter begun
entered-floods left n = floods-tick (is_live left n) (tried_in_turn (enter left) [] n all_pieces)

begun-floods : (left : ℕ) (n : SearchState) (given : List Placement) → floods (sought left [] n given) ≤ floods (begun left n)
begun-floods zero n given = omega (arith, none-floods n given)
begun-floods (suc left) n given = omega (arith, floods-sought (suc left) [] n given, entered-floods left n)

pub whole-floods : (problem : Problem) (queue : Option (List Piece)) → floods (whole_from problem queue None) ≡ pairs problem queue
unfolding whole_from pairs
whole-floods problem queue = floods-begun (needed_of problem) (root_of problem queue) (root-played problem queue)

pub floods-within : (problem : Problem) (queue : Option (List Piece)) (after : Option (List Placement)) → floods (whole_from problem queue after) ≤ pairs problem queue
unfolding whole_from pairs
floods-within problem queue after = search (rules, floods-begun, root-played, begun-floods)
