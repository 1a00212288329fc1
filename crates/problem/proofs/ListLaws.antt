-- The list of a view: it is determined, it resumes after each of its members, and its first member is the next solution.
use Rattle.std.proofs.Common.{◌≡◌, ◌≢◌, true, false, List, [], ◌∷◌, ◌++◌, refl, sym, ap, subst, ◌∙◌, inl, inr}
use Rattle.std.specs.Prelude.{Contains, Option, Some, None, filter}
use Rattle.std.proofs.lemmas.List.Elements.{Contains-append_left, Contains-append_right}
use Rattle.std.specs.List.Sorted.{IsStrictlySortedBy}
use Rattle.std.specs.Ordering.{is_lt, ordering_reverse}
use Rattle.std.specs.Cmp.{tied_itself}
use Rattle.std.specs.declared.cmp.Ordering.TheVariants.{Less, Equal}
use Rattle.srs.specs.declared.piece.Piece.{Piece}
use Rattle.srs.specs.declared.placement.Placement.{Placement}
use Rattle.srs.specs.Order.{sequence_cmp}
use Rattle.srs.specs.Rising.{is_above, IsLeastAbove, NoneAbove}
use Rattle.srs.proofs.CallerLemmas.{Contains-cases, Contains-here, Contains-none, filter-each, filter-false, IsRisingListOf-filter, IsRisingListOf-unique, is_before-decides, rising-first, rising-rest, sequence_cmp-total}
use Rattle.problem.specs.declared.problem.Problem.{Problem}
use Rattle.problem.specs.SolutionList.{View, IsList, IsSolutionAbove, Resumes}
use Rattle.problem.specs.Solution.{IsSolution}

pub lists-same : (view : View) (xs ys : List (List Placement)) → IsList view xs → IsList view ys → xs ≡ ys
lists-same view xs ys first second = IsRisingListOf-unique sequence_cmp sequence_cmp-total (IsSolutionAbove view) xs ys first second

not_less_itself : (s : List Placement) → sequence_cmp s s ≢ Less
not_less_itself s e = let tied : sequence_cmp s s ≡ Equal = tied_itself sequence_cmp-total s in cc

not_less_back : (s t : List Placement) → sequence_cmp s t ≡ Less → sequence_cmp t s ≢ Less
not_less_back s t e f = not_less_itself s (sequence_cmp-total.trans s t s e f)

-- of a rising list, what is above one of its members is what stands after it
members-after : (front rest : List (List Placement)) (s : List Placement) → IsStrictlySortedBy sequence_cmp ((front ++ s ∷ []) ++ rest) → filter (is_above sequence_cmp (Some s)) ((front ++ s ∷ []) ++ rest) ≡ rest
members-after [] rest s rising =
    filter-false (is_above sequence_cmp (Some s)) s rest (ap is_lt (tied_itself sequence_cmp-total s))
    ∙ filter-each (is_above sequence_cmp (Some s)) rest (λ y later. ap is_lt (rising-first sequence_cmp s rest rising y later))
members-after (x ∷ front) rest s rising =
    let later = (front ++ s ∷ []) ++ rest in
    let among : Contains later s = Contains-append_left (front ++ s ∷ []) rest s (Contains-append_right front (s ∷ []) s (Contains-here s [])) in
    let before : is_above sequence_cmp (Some s) x ≡ false = ap is_lt (sequence_cmp-total.antisymm s x ∙ ap ordering_reverse (rising-first sequence_cmp x later rising s among)) in
    filter-false (is_above sequence_cmp (Some s)) x later before
    ∙ members-after front rest s (rising-rest sequence_cmp x later rising)

-- a list, up to one of its members and after it
record Divided (whole : List (List Placement)) (s : List Placement) : Type 0 where
  front : List (List Placement)
  rest : List (List Placement)
  joined : whole ≡ (front ++ s ∷ []) ++ rest

divided-at : (whole : List (List Placement)) (s : List Placement) → Contains whole s → Divided whole s
divided-at [] s among = absurd (Contains-none s among)
divided-at (x ∷ xs) s among = elim (Contains-cases x xs s among) [
  | inl here ↦ record { front = []; rest = xs; joined = ap (λ z. z ∷ xs) here }
  | inr there ↦ let later = divided-at xs s there in record { front = x ∷ later.front; rest = later.rest; joined = ap (λ l. x ∷ l) later.joined }
]

-- what is above something above a bound is above the bound
above-on : (bound : Option (List Placement)) (s x : List Placement) → is_above sequence_cmp bound s ≡ true → is_above sequence_cmp (Some s) x ≡ true → is_above sequence_cmp bound x ≡ true
above-on None s x above on = refl
above-on (Some b) s x above on =
    (is_before-decides sequence_cmp b x).1
    (sequence_cmp-total.trans b s x ((is_before-decides sequence_cmp b s).0 above) ((is_before-decides sequence_cmp s x).0 on))

module _ (problem : Problem) (queue : Option (List Piece)) where
  abbrev view : Option (List Placement) → View
  view bound = record { problem = problem; queue = queue; bound = bound }

  -- those after one of them
  after-list : (bound : Option (List Placement)) (whole : List (List Placement)) (s : List Placement) → IsList (view bound) whole → Contains whole s → IsList (view (Some s)) (filter (is_above sequence_cmp (Some s)) whole)
  after-list bound whole s list among =
      let one = (list.members s).0 among in
      let kept = IsRisingListOf-filter sequence_cmp sequence_cmp-total (IsSolutionAbove (view bound)) (is_above sequence_cmp (Some s)) whole list in
      record {
        rising = kept.rising;
        members = λ x. (
          λ among. let both = (kept.members x).0 among in record { solution = both.0.solution; above = both.1 },
          λ later. (kept.members x).1 (record { solution = later.solution; above = above-on bound s x one.above later.above }, later.above),
        );
      }

  pub rest-is_list : (bound : Option (List Placement)) (front rest : List (List Placement)) (s : List Placement) → IsList (view bound) ((front ++ s ∷ []) ++ rest) → IsList (view (Some s)) rest
  rest-is_list bound front rest s list =
      let among : Contains ((front ++ s ∷ []) ++ rest) s = Contains-append_left (front ++ s ∷ []) rest s (Contains-append_right front (s ∷ []) s (Contains-here s [])) in
      subst (IsList (view (Some s))) (members-after front rest s list.rising) (after-list bound ((front ++ s ∷ []) ++ rest) s list among)

  pub lists-resume : (bound : Option (List Placement)) (whole rest : List (List Placement)) (s : List Placement) → IsList (view bound) whole → Contains whole s → IsList (view (Some s)) rest → Resumes whole s rest
  lists-resume bound whole rest s list among after =
      let at = divided-at whole s among in
      let same : at.rest ≡ rest = lists-same (view (Some s)) at.rest rest (rest-is_list bound at.front at.rest s (subst (IsList (view bound)) at.joined list)) after in
      record { front = at.front; joined = at.joined ∙ ap (λ l. (at.front ++ s ∷ []) ++ l) same }

  -- the first of the list is the next solution
  pub next-none : (bound : Option (List Placement)) → IsList (view bound) [] → NoneAbove sequence_cmp (IsSolution problem queue) bound
  next-none bound list = record { none = λ s solution above. Contains-none s ((list.members s).1 (record { solution = solution; above = above })) }

  pub next-first : (bound : Option (List Placement)) (s : List Placement) (rest : List (List Placement)) → IsList (view bound) (s ∷ rest) → IsLeastAbove sequence_cmp (IsSolution problem queue) bound s
  next-first bound s rest list =
      let first = (list.members s).0 (Contains-here s rest) in
      record {
        member = first.solution;
        above = first.above;
        least = λ t solution above less. elim (Contains-cases s rest t ((list.members t).1 (record { solution = solution; above = above }))) [
          | inl here ↦ not_less_itself s (subst (λ z. sequence_cmp z s ≡ Less) (sym here) less)
          | inr there ↦ not_less_back s t (rising-first sequence_cmp s rest list.rising t there) less
        ];
      }
