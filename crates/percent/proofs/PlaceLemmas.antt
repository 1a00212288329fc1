-- The places of a piece, one after the other, and the positions after them.
use Rattle.std.proofs.Common.{◌≡◌, ◌≢◌, ◌↔◌, ◌⊎◌, ℕ, ◌-◌, ◌<◌, ◌≤◌, Bool, true, false, ◌&&◌, ◌||◌, List, [], ◌∷◌, ◌++◌, IsTrue, length, refl, sym, ap, subst, ◌∙◌, inl, inr, arith}
use Rattle.std.specs.Prelude.{Contains, Some, None, filter}
use Rattle.std.specs.Cmp.{tied_itself}
use Rattle.std.specs.List.{list_any}
use Rattle.std.specs.declared.cmp.Ordering.{Ordering}
use Rattle.std.specs.declared.cmp.Ordering.TheVariants.{Less, Equal, Greater}
use Rattle.std.specs.Prelude.{IsPermutation}
use Rattle.std.proofs.lemmas.Bool.{and_from, and_parts, cases_Bool, false≢true, or_left, or_right, false_from_ne_true}
use Rattle.std.proofs.lemmas.List.Sorted.{list_any-IsPermutation}
use Rattle.std.proofs.lemmas.List.Folds.{list_any-append}
use Rattle.lane_board.specs.Field.{Field}
use Rattle.lane_board.proofs.CallerLemmas.{same_from_both}
use Rattle.srs.specs.declared.piece.Piece.{Piece}
use Rattle.srs.specs.declared.placement.Placement.{Placement}
use Rattle.srs.specs.Kick.{Table}
use Rattle.srs.specs.Order.{placement_cmp}
use Rattle.srs.specs.Placements.{placements_of}
use Rattle.srs.specs.Rules.{table_of}
use Rattle.srs.proofs.CallerLemmas.{placement_cmp-antisymmetric, placement_cmp-total, placements_of-list, Contains-cases, Contains-filter, Contains-from_filter, Contains-none, filter-false, filter-true, some_same, any_passes, some_passes}
use Rattle.srs.specs.Rising.{IsNextAbove}
use Rattle.well.specs.Well.{filled}
use Rattle.well.specs.Free.{is_free}
use Rattle.well.specs.Lock.{locked, rows_removed}
use Rattle.well.specs.LockLaws.{is_below}
use Rattle.moves.specs.Place.{IsPlace}
use Rattle.moves.specs.PlaceTest.{is_place, places_in}
use Rattle.place_sets.specs.declared.low_held.LowPlaces.{LowPlaces}
use Rattle.place_sets.specs.LowPlaces.{holds}
use Rattle.well.proofs.CallerLemmas.{free_inside}
use Rattle.moves.proofs.CallerLemmas.{is_place-decides as place-decides, place-free}
use Rattle.percent.specs.declared.game.Game.{Game}
use Rattle.percent.specs.declared.position.Child.{Child}
use Rattle.percent.specs.GoodHands.{reached_places, is_good, is_good_after}
use Rattle.percent.specs.Children.{is_good_at}
use Rattle.std.proofs.lemmas.Bool.{or_cases}

-- a place of a piece below a row
pub record IsLowPlace (game : Game) (F : Field) (rows : ℕ) (piece : Piece) (q : Placement) : Type 0 where
  pub kind : q.piece ≡ piece
  pub place : IsPlace (table_of game.rules) F game.drop_mode q
  pub below : is_below rows q ≡ true

pub low-free : (game : Game) (F : Field) (rows : ℕ) (piece : Piece) (q : Placement) → IsLowPlace game F rows piece q → is_free F q ≡ true
low-free game F rows piece q is = place-free (table_of game.rules) F game.drop_mode q is.place

listed : (game : Game) (F : Field) (rows : ℕ) (piece : Piece) (q : Placement) → IsLowPlace game F rows piece q → Contains (placements_of piece) q
listed game F rows piece q is = ((placements_of-list piece).members q).1 (record { kind = is.kind; canonical = is.place.canonical; inside = free_inside F q (low-free game F rows piece q is) })

reached : (game : Game) (F : Field) (rows : ℕ) (piece : Piece) (q : Placement) → IsLowPlace game F rows piece q → Contains (reached_places game F piece) q
unfolding places_in
reached game F rows piece q is =
    Contains-filter (is_place (table_of game.rules) F game.drop_mode) (placements_of piece) q (listed game F rows piece q is) ((place-decides (table_of game.rules) F game.drop_mode q).1 is.place)

-- those of a list that pass a test are fewer where one fails that passed
no_more : (f g : Placement → Bool) → ((q : Placement) → g q ≡ true → f q ≡ true) → (qs : List Placement) → length (filter g qs) ≤ length (filter f qs)
no_more f g also [] = omega arith
no_more f g also (q ∷ qs) = elim (cases_Bool (g q)) [
  | inl passes ↦ omega (arith, ap length (filter-true g q qs passes), ap length (filter-true f q qs (also q passes)), no_more f g also qs)
  | inr fails ↦ elim (cases_Bool (f q)) [
    | inl before ↦ omega (arith, ap length (filter-false g q qs fails), ap length (filter-true f q qs before), no_more f g also qs)
    | inr never ↦ omega (arith, ap length (filter-false g q qs fails), ap length (filter-false f q qs never), no_more f g also qs)
  ]
]

fewer : (f g : Placement → Bool) → ((q : Placement) → g q ≡ true → f q ≡ true) → (p : Placement) → f p ≡ true → g p ≡ false → (qs : List Placement) → Contains qs p → length (filter g qs) < length (filter f qs)
fewer f g also p was is [] among = absurd (Contains-none p among)
fewer f g also p was is (q ∷ qs) among = elim (Contains-cases q qs p among) [
  | inl here ↦
      let fails : g q ≡ false = subst (λ q. g q ≡ false) (sym here) is in
      let passed : f q ≡ true = subst (λ q. f q ≡ true) (sym here) was in
      omega (arith, ap length (filter-false g q qs fails), ap length (filter-true f q qs passed), no_more f g also qs)
  | inr later ↦ elim (cases_Bool (g q)) [
    | inl passes ↦ omega (arith, ap length (filter-true g q qs passes), ap length (filter-true f q qs (also q passes)), fewer f g also p was is qs later)
    | inr fails ↦ elim (cases_Bool (f q)) [
      | inl before ↦ omega (arith, ap length (filter-false g q qs fails), ap length (filter-true f q qs before), fewer f g also p was is qs later)
      | inr never ↦ omega (arith, ap length (filter-false g q qs fails), ap length (filter-false f q qs never), fewer f g also p was is qs later)
    ]
  ]
]

one-or-other : (q p : Placement) → (q ≡ p) ⊎ (Some q ≢ Some p)
one-or-other q p = at (placement_cmp q p) refl
  where
    tied : Some q ≡ Some p → placement_cmp q p ≡ Equal
    tied e = ap (placement_cmp q) (sym (some_same e)) ∙ tied_itself placement_cmp-total q

    at : (r : Ordering) → placement_cmp q p ≡ r → (q ≡ p) ⊎ (Some q ≢ Some p)
    at Less e = inr (λ same. let tie = tied same in cc)
    at Equal e = inl (placement_cmp-antisymmetric q p e)
    at Greater e = inr (λ same. let tie = tied same in cc)

-- how many of a piece's placements are held
pub count_places_held : LowPlaces → Piece → ℕ
count_places_held places piece = length (filter (holds places) (placements_of piece))

-- ---- the positions after the places

-- whether a hand is good after a placement
abbrev pub is_good_with : Game → Field → ℕ → ℕ → ℕ → Placement → Bool
is_good_with game F rows left hand q = is_good game (locked F q) (rows - rows_removed F q) left hand

-- the positions so far and the places that are still held make up all at which some of the hands are good
pub record Entering (game : Game) (F : Field) (rows : ℕ) (piece : Piece) (left : ℕ) (hands : ℕ → Bool) (children : List Child) (places : LowPlaces) : Type 0 where
  pub held : (q : Placement) → holds places q ≡ true → IsLowPlace game F rows piece q
  pub only : (hand : ℕ) → is_good_at game children left hand ≡ true → is_good_after game F rows piece left hand ≡ true
  pub each : (q : Placement) → IsLowPlace game F rows piece q
      → (holds places q ≡ true) ⊎ ((hand : ℕ) → hands hand ≡ true → is_good_with game F rows left hand q ≡ true → is_good_at game children left hand ≡ true)

pub enter-starts : (game : Game) (T : Table) (F : Field) (rows : ℕ) (piece : Piece) (left : ℕ) (hands : ℕ → Bool) (children : List Child) (places : LowPlaces) → T ≡ table_of game.rules → children ≡ []
    → ((q : Placement) → (IsTrue (holds places q)) ↔ ((q.piece ≡ piece) × IsPlace T F game.drop_mode q × IsTrue (is_below rows q)))
    → Entering game F rows piece left hands children places
unfolding is_good_at
enter-starts game T F rows piece left hands children places rules nil held = record {
  held = λ q is. let place = (held q).0 is in record { kind = place.0; place = subst (λ T. IsPlace T F game.drop_mode q) rules place.1; below = place.2 };
  only = λ hand good. absurd (false≢true (sym (ap (list_any (λ child. is_good game (filled child.position.well) child.position.rows left hand)) nil) ∙ good));
  each = λ q is. inl ((held q).1 (is.kind, subst (λ T. IsPlace T F game.drop_mode q) (sym rules) is.place, is.below));
}

-- one is taken out of the places
module _ (game : Game) (F : Field) (rows : ℕ) (piece : Piece) (left : ℕ) (hands : ℕ → Bool) (children : List Child) (old new : LowPlaces) (q : Placement)
    (state : Entering game F rows piece left hands children old) (least : IsNextAbove placement_cmp (λ p. IsTrue (holds old p)) None (Some q))
    (rest : (p : Placement) → IsTrue (holds new p) ↔ (IsTrue (holds old p) × (Some q ≢ Some p))) where
  pub taken : IsLowPlace game F rows piece q
  taken = state.held q least.member

  pub taken-fewer : count_places_held new piece < count_places_held old piece
  unfolding count_places_held
  taken-fewer =
      fewer (holds old) (holds new) (λ p is. ((rest p).0 is).0) q least.member (false_from_ne_true _ (λ e. ((rest q).0 e).1 refl)) (placements_of piece) (listed game F rows piece q taken)

  -- and left out
  pub enter-skip : ((hand : ℕ) → hands hand ≡ true → is_good_with game F rows left hand q ≡ false) → Entering game F rows piece left hands children new
  enter-skip bad = record {
    held = λ p is. state.held p ((rest p).0 is).0;
    only = state.only;
    each = λ p is. elim (state.each p is) [
      | inr found ↦ inr found
      | inl still ↦ elim (one-or-other q p) [
        | inr other ↦ inl ((rest p).1 (still, other))
        | inl same ↦ inr (λ hand here good. absurd (false≢true (sym (bad hand here) ∙ subst (λ p. is_good_with game F rows left hand p ≡ true) (sym same) good)))
      ]
    ];
  }

  -- or entered
  pub enter-more : (child : Child) → filled child.position.well ≡ locked F q → child.position.rows ≡ rows - rows_removed F q → Entering game F rows piece left hands (children ++ child ∷ []) new
  unfolding is_good_at is_good_after
  enter-more child field height = record {
    held = λ p is. state.held p ((rest p).0 is).0;
    only = λ hand good. elim (or_cases (list_any (at hand) children) (at hand child || false) (sym (list_any-append (at hand) children (child ∷ [])) ∙ good)) [
      | inl before ↦ state.only hand before
      | inr here ↦
          any_passes (λ p. is_below rows p && is_good_with game F rows left hand p) (reached_places game F piece) q (reached game F rows piece q taken)
          (and_from (is_below rows q) _ taken.below (sym (same hand) ∙ one (at hand child) here))
    ];
    each = λ p low. elim (state.each p low) [
      | inr found ↦ inr (λ hand here good. more hand (or_left (list_any (at hand) children) (at hand child || false) (found hand here good)))
      | inl still ↦ elim (one-or-other q p) [
        | inr other ↦ inl ((rest p).1 (still, other))
        | inl here ↦ inr (λ hand _ good. more hand (or_right (list_any (at hand) children) (at hand child || false) (or_left (at hand child) false (same hand ∙ subst (λ p. is_good_with game F rows left hand p ≡ true) (sym here) good))))
      ]
    ];
  }
    where
      at : ℕ → Child → Bool
      at hand child = is_good game (filled child.position.well) child.position.rows left hand

      same : (hand : ℕ) → at hand child ≡ is_good_with game F rows left hand q
      same hand = λ i. is_good game (field i) (height i) left hand

      more : (hand : ℕ) → (list_any (at hand) children || (at hand child || false)) ≡ true → list_any (at hand) (children ++ child ∷ []) ≡ true
      more hand h = list_any-append (at hand) children (child ∷ []) ∙ h

      one : (b : Bool) → (b || false) ≡ true → b ≡ true
      one true h = refl
      one false h = h

pub enter-ends : (game : Game) (F : Field) (rows : ℕ) (piece : Piece) (left : ℕ) (hands : ℕ → Bool) (children : List Child) (places : LowPlaces) → Entering game F rows piece left hands children places
    → IsNextAbove placement_cmp (λ p. IsTrue (holds places p)) None None
    → (hand : ℕ) → hands hand ≡ true → is_good_at game children left hand ≡ is_good_after game F rows piece left hand
unfolding is_good_after places_in
enter-ends game F rows piece left hands children places state none hand here = same_from_both _ _ (state.only hand) (λ good. all (some_passes (λ q. is_below rows q && is_good_with game F rows left hand q) (reached_places game F piece) good))
  where
    low : (q : Placement) → Contains (reached_places game F piece) q → is_below rows q ≡ true → IsLowPlace game F rows piece q
    low q among below =
        let found = Contains-from_filter (is_place (table_of game.rules) F game.drop_mode) (placements_of piece) q among in
        record { kind = (((placements_of-list piece).members q).0 found.0).kind; place = (place-decides (table_of game.rules) F game.drop_mode q).0 found.1; below = below }

    all : (q : Placement) × Contains (reached_places game F piece) q × ((is_below rows q && is_good_with game F rows left hand q) ≡ true) → is_good_at game children left hand ≡ true
    all (q, among, good) =
        let parts = and_parts (is_below rows q) (is_good_with game F rows left hand q) good in
        elim (state.each q (low q among parts.0)) [
          | inl still ↦ absurd (none.none q still refl)
          | inr found ↦ found hand here parts.1
        ]

-- positions are good in any order
pub in-any-order : (game : Game) (children ordered : List Child) (left hand : ℕ) → IsPermutation children ordered → is_good_at game ordered left hand ≡ is_good_at game children left hand
unfolding is_good_at
in-any-order game children ordered left hand same = sym (list_any-IsPermutation (λ child. is_good game (filled child.position.well) child.position.rows left hand) children ordered same)
