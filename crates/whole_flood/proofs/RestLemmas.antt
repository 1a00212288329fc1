-- Where states come to rest, rotation by rotation.
use Rattle.std.proofs.Common.{◌≡◌, ℕ, zero, suc, ◌≤◌, true, false, pos, refl, sym, ap, subst, ◌∙◌, inl, inr, arith, rules}
use Rattle.std.proofs.lemmas.Bool.{cases_Bool, cases_lt, and_parts, and_from, not-true, not_from_false, cond-true, cond-false, both_ways, false_from_ne_true}
use Rattle.lane_board.specs.Field.{Field, difference}
use Rattle.srs.specs.declared.piece.Piece.{Piece}
use Rattle.srs.specs.declared.rotation.Rotation.{Rotation}
use Rattle.srs.specs.declared.rotation.Rotation.TheVariants.{Spawn, Right, Reverse, Left}
use Rattle.srs.specs.declared.placement.Placement.{Placement}
use Rattle.srs.specs.Cells.{minus, moved}
use Rattle.well.specs.Free.{is_free_at}
use Rattle.moves.specs.Rest.{rest_from}
use Rattle.place_sets.specs.declared.spreading.Shifts.TheVariants as Shift
use Rattle.place_sets.specs.Shifts.{lower, widened_by}
use Rattle.place_sets.specs.States.{States}
use Rattle.whole_flood.specs.Rested.{IsRested, AreRested}
use Rattle.place_sets.proofs.CallerLemmas.{LiesWithin, IsWithin, moved_from, moved_to, spread-has, still-has, widened-from, state_of}

pub rested_each : (N : ℕ) (free S R : States) → IsRested N (free Spawn) (S Spawn) (R Spawn) → IsRested N (free Right) (S Right) (R Right) → IsRested N (free Reverse) (S Reverse) (R Reverse) → IsRested N (free Left) (S Left) (R Left) → AreRested N free S R
rested_each N free S R a b c d = search rules

-- moved by one row up or down
row_below : (a b x y : ℕ) → moved (pos a, pos b) (pos 0, minus 1) ≡ (pos x, pos y) → (a ≡ x) × (b ≡ suc y)
unfolding moved
row_below a b x y there = search rules

to_row_below : (x y : ℕ) → moved (pos x, pos (suc y)) (pos 0, minus 1) ≡ (pos x, pos y)
unfolding moved
to_row_below x y = search rules

row_above : (a b x y : ℕ) → moved (pos a, pos b) (pos 0, pos 1) ≡ (pos x, pos y) → (a ≡ x) × (suc b ≡ y)
unfolding moved
row_above a b x y there = search rules

to_row_above : (x y : ℕ) → moved (pos x, pos y) (pos 0, pos 1) ≡ (pos x, pos (suc y))
unfolding moved
to_row_above x y = search rules

-- a pivot of the set from which a fall through free pivots leads to a cell
pub record FallsTo (free S : Field) (x y : ℕ) : Type 0 where
  pub from : ℕ
  pub above : y ≤ from
  pub starts : S x from ≡ true
  pub through : (k : ℕ) → y ≤ k → k ≤ from → free x k ≡ true

module _ (N : ℕ) (free S : Field) (within : IsWithin S free) where
  one_down : (x y : ℕ) → free x y ≡ true → FallsTo free S x (suc y) → FallsTo free S x y
  one_down x y is_free way = search (rules, cases_lt)

  falls_by_rounds : (rounds : ℕ) (x y : ℕ) → widened_by rounds Shift.Down N free S x y ≡ true → FallsTo free S x y
  unfolding widened_by lower
  falls_by_rounds zero x y held = search rules
  falls_by_rounds (suc rounds) x y held = elim (widened-from Shift.Down N free (widened_by rounds Shift.Down N free S) x y held) [
    | inl old ↦ falls_by_rounds rounds x y old
    | inr new ↦
        let way = moved_from (widened_by rounds Shift.Down N free S) N (pos 0, minus 1) x y new.1 in
        let at = row_below way.from_x way.from_y x y way.there in
        one_down x y new.0 (falls_by_rounds rounds x (suc y) (subst (λ y. widened_by rounds Shift.Down N free S x y ≡ true) at.1 (subst (λ x. widened_by rounds Shift.Down N free S x way.from_y ≡ true) at.0 way.filled)))
  ]

  -- a resting pivot is one to which a pivot falls, with no free one below
  pub rested_from : (R : Field) (x y : ℕ) → LiesWithin free N → IsRested N free S R → R x y ≡ true → FallsTo free S x y × ((below : ℕ) → y ≡ suc below → free x below ≡ false)
  unfolding difference
  rested_from R x y lies is held =
      search (rules, (and_parts (is.fallen x y)), (falls_by_rounds is.falls.rounds x y), false_from_ne_true, (lies.inside x y), both_ways, not-true, (moved_to free N (pos 0, pos 1) x), (to_row_above x))

  module _ (R : Field) (lies : LiesWithin free N) (is : IsRested N free S R) (F : Field) (piece : Piece) (r : Rotation) (exact : (x y : ℕ) → is_free_at F piece r (pos x, pos y) ≡ free x y) where
    -- from a pivot to which others fall on, the rest is a resting pivot
    pub record RestsThere (x : ℕ) (rest : Placement) : Type 0 where
      pub kind : rest.piece ≡ piece
      pub turn : rest.rotation ≡ r
      pub column : rest.x ≡ x
      pub held : R x rest.y ≡ true
      pub is_free : free x rest.y ≡ true

    stays_there : (x y : ℕ) → is.fallen x y ≡ true → ((below : ℕ) → y ≡ suc below → free x below ≡ false) → R x y ≡ true
    unfolding difference
    stays_there x y fallen blocked = ap (λ (G : Field). G x y) is.rests ∙ and_from _ _ fallen (not_from_false _ (false_from_ne_true _ (λ lifted.
        let way = moved_from free N (pos 0, pos 1) x y lifted in
        let at = row_above way.from_x way.from_y x y way.there in
        both_ways _ (blocked way.from_y (sym at.1)) (subst (λ x. free x way.from_y ≡ true) at.0 way.filled))))

    rests_there : (x y : ℕ) → is.fallen x y ≡ true → free x y ≡ true → RestsThere x (rest_from F piece r x y)
    unfolding rest_from lower
    rests_there x zero fallen is_free = record { kind = refl; turn = refl; column = refl; held = stays_there x 0 fallen (λ below e. absurd (omega arith)); is_free = is_free }
    rests_there x (suc y) fallen is_free = elim (cases_Bool (free x y)) [
      | inl lower_free ↦
          let inside = lies.inside x y lower_free in
          let further = still-has Shift.Down N free S is.fallen is.falls x y lower_free (moved_to is.fallen N (pos 0, minus 1) x (suc y) x y fallen (to_row_below x y) inside.0 inside.1) in
          subst (RestsThere x) (sym (cond-true _ (rest_from F piece r x y) (state_of piece r x (suc y)) (exact x y ∙ lower_free))) (rests_there x y further lower_free)
      | inr blocked ↦
          subst (RestsThere x) (sym (cond-false _ (rest_from F piece r x y) (state_of piece r x (suc y)) (exact x y ∙ blocked)))
          (record { kind = refl; turn = refl; column = refl; held = stays_there x (suc y) fallen (λ below e. let same : y ≡ below = omega arith in subst (λ y. free x y ≡ false) same blocked); is_free = is_free })
    ]

    pub rest_held : (x y : ℕ) → S x y ≡ true → RestsThere x (rest_from F piece r x y)
    rest_held x y held = rests_there x y ((spread-has Shift.Down N free S is.fallen is.falls).has x y held) (within.has x y held)

    -- the rest of a state that falls to a resting pivot
    rest_reaches : (x from y : ℕ) → y ≤ from → ((k : ℕ) → y ≤ k → k ≤ from → free x k ≡ true) → ((below : ℕ) → y ≡ suc below → free x below ≡ false) → rest_from F piece r x from ≡ state_of piece r x y
    unfolding rest_from
    rest_reaches x zero y above through blocked = let same : 0 ≡ y = omega arith in ap (state_of piece r x) same
    rest_reaches x (suc from) y above through blocked =
        search (rules, cases_lt, cond-false, cond-true, (rest_reaches x from y))

    pub held_rest : (x y : ℕ) → R x y ≡ true → (from : ℕ) × (S x from ≡ true) × (rest_from F piece r x from ≡ state_of piece r x y)
    held_rest x y held =
        let parts = rested_from R x y lies is held in
        (parts.0.from, parts.0.starts, rest_reaches x parts.0.from y parts.0.above parts.0.through parts.1)
