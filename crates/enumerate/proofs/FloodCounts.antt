-- How many floods the events of a walk hold.
use Rattle.std.proofs.Common.{◌≡◌, ℕ, zero, suc, ◌+◌, ◌≤◌, Bool, true, false, ◌&&◌, List, [], ◌∷◌, ◌++◌, refl, sym, ap, subst, ◌∙◌, inl, inr, arith, rules}
use Rattle.std.specs.Prelude.{Contains, Some, filter, drop, take, ◌-◌, if◌then◌else◌, sum_by}
use Rattle.std.specs.List.{flat_map}
use Rattle.std.proofs.lemmas.Bool.{cases_Bool, cond-true}
use Rattle.std.proofs.lemmas.List.Sums.{sum_by-append, sum_by-cons}
use Rattle.srs.specs.declared.piece.Piece.{Piece}
use Rattle.srs.specs.declared.placement.Placement.{Placement}
use Rattle.srs.specs.Piece.{all_pieces, piece_code}
use Rattle.srs.specs.Order.{placement_cmp}
use Rattle.srs.specs.Rising.{is_above}
use Rattle.srs.proofs.CallerLemmas.{and_first, and_second, Contains-cases, Contains-none, filter-false, filter-true, placement_cmp-total}
use Rattle.std.specs.Ordering.{is_lt}
use Rattle.std.specs.Cmp.{tied_itself}
use Rattle.moves.specs.PlaceTest.{is_place}
use Rattle.well.specs.LockLaws.{is_below}
use Rattle.enumerate.specs.SearchState.{SearchState, after_of, may_play, places_at, is_live}
use Rattle.enumerate.specs.Events.{Event, Tick, Flood, floods, Walk, entered, tried, tried_in_turn, enter, sought}
use Rattle.enumerate.proofs.Resumed.{kinds-split, placed-there}
use Rattle.enumerate.proofs.Walks.{floods-append}

pub floods-flat_map : {A : Type 0} (f : A → List Event) (xs : List A) → floods (flat_map f xs) ≡ sum_by (λ x. floods (f x)) xs
unfolding floods
floods-flat_map f [] = refl
floods-flat_map f (x ∷ xs) = floods-append (f x) (flat_map f xs) ∙ ap (λ k. floods (f x) + k) (floods-flat_map f xs) ∙ sym (sum_by-cons (λ x. floods (f x)) x xs)

pub floods-tried_in_turn : (walk : Walk) (prefix : List Placement) (n : SearchState) (pieces : List Piece) → floods (tried_in_turn walk prefix n pieces) ≡ sum_by (λ c. floods (tried walk prefix n c)) pieces
unfolding tried_in_turn floods
floods-tried_in_turn walk prefix n pieces = search (rules, floods-append, floods-flat_map)

sum_by-filter_le : {A : Type 0} (f : A → ℕ) (test : A → Bool) (xs : List A) → sum_by f (filter test xs) ≤ sum_by f xs
sum_by-filter_le f test [] = omega arith
sum_by-filter_le f test (x ∷ xs) =
    search (rules, cases_Bool, filter-true, sum_by-cons, filter-false, (sum_by-filter_le f test xs))

-- one of them and those after it are no more than all of them
sum_by-past : (f : Placement → ℕ) (p : Placement) (qs : List Placement) → Contains qs p → f p + sum_by f (filter (is_above placement_cmp (Some p)) qs) ≤ sum_by f qs
sum_by-past f p [] among = absurd (Contains-none p among)
sum_by-past f p (q ∷ qs) among =
    let later : Placement → Bool = is_above placement_cmp (Some p) in
    elim (Contains-cases q qs p among) [
      | inl here ↦
          let under : is_above placement_cmp (Some p) q ≡ false = subst (λ z. is_above placement_cmp (Some p) z ≡ false) (sym here) (ap is_lt (tied_itself placement_cmp-total p)) in
          let same : f q ≡ f p = ap f here in
          omega (arith, same, sum_by-filter_le f later qs, ap (sum_by f) (filter-false later q qs under), sum_by-cons f q qs)
      | inr there ↦ search (rules, (cases_Bool (later q)), (sum_by-past f p qs there), (filter-true later q qs), (sum_by-cons f q (filter later qs)), (sum_by-cons f q qs), (filter-false later q qs))
    ]

sum_by-last_kinds : (f : Piece → ℕ) (piece : Piece) → f piece + sum_by f (drop (piece_code piece) all_pieces) ≤ sum_by f all_pieces
sum_by-last_kinds f piece =
    search (rules, (kinds-split piece), (sum_by-append f (take (piece_code piece - 1) all_pieces) (piece ∷ drop (piece_code piece) all_pieces)), (sum_by-cons f piece (drop (piece_code piece) all_pieces)))

module _ (left : ℕ) (prefix : List Placement) (n : SearchState) (q : Placement) (given : List Placement)
    (fewer : floods (sought left (prefix ++ q ∷ []) (after_of n q) given) ≤ floods (enter left (prefix ++ q ∷ []) (after_of n q))) where
  abbrev later : List Placement
  later = filter (is_above placement_cmp (Some q)) (places_at n q.piece)

  floods-first : (b : Bool) → (b ≡ is_place n.table n.field n.mode q && is_below n.rows q) →
      floods (if b then sought left (prefix ++ q ∷ []) (after_of n q) given else []) + floods (flat_map (entered (enter left) prefix n) later) ≤ floods (flat_map (entered (enter left) prefix n) (places_at n q.piece))
  unfolding floods entered
  floods-first b is =
      search (rules, and_first, and_second, cond-true, floods-flat_map, sum_by-past, placed-there, sum_by-filter_le)

  floods-kind : (b : Bool) → floods (if b then Flood ∷ ((if is_place n.table n.field n.mode q && is_below n.rows q then sought left (prefix ++ q ∷ []) (after_of n q) given else []) ++ flat_map (entered (enter left) prefix n) later) else [])
      ≤ floods (if b then Flood ∷ flat_map (entered (enter left) prefix n) (places_at n q.piece) else [])
  unfolding floods
  floods-kind true = search (rules, floods-append, floods-first)
  floods-kind false = omega arith

floods-choice : (b : Bool) (xs ys : List Event) → floods xs ≤ floods ys → floods (if b then xs else []) ≤ floods (if b then ys else [])
floods-choice b xs ys le = search rules

-- a search that begins after a sequence makes no more floods than one that begins at the start
pub floods-sought : (left : ℕ) (prefix : List Placement) (n : SearchState) (given : List Placement) → floods (sought left prefix n given) ≤ floods (enter left prefix n)
unfolding sought enter floods tried
floods-sought zero prefix n given = omega arith
floods-sought (suc left) prefix n [] = floods-choice (is_live left n) (tried_in_turn (enter left) prefix n all_pieces) (Tick ∷ tried_in_turn (enter left) prefix n all_pieces) (omega arith)
floods-sought (suc left) prefix n (q ∷ given) =
    search (rules, (floods-choice (is_live left n)), floods-append, (floods-tried_in_turn (enter left) prefix n (drop (piece_code q.piece) all_pieces)), (floods-tried_in_turn (enter left) prefix n all_pieces), (sum_by-last_kinds (λ c. floods (tried (enter left) prefix n c)) q.piece), (floods-kind left prefix n q given (floods-sought left (prefix ++ q ∷ []) (after_of n q) given) (may_play n.line q.piece)))
