-- The rounds of a soft flood: what they keep, how they end, and what is closed then.
use Rattle.std.proofs.Common.{◌≡◌, ◌≢◌, ◌↔◌, ◌⊎◌, ℕ, zero, suc, ◌<◌, Bool, true, false, ◌||◌, refl, sym, ap, subst, ◌∙◌, inl, inr, rules}
use Rattle.std.specs.Prelude.{IsTrue}
use Rattle.std.proofs.lemmas.Bool.{and_parts, and_from, or_cases, or_left, or_right, cases_Bool, cases_lt, cond-true, cond-false, both_ways, not-true, not_from_false, eqb-true, eq-eqb, false≢true}
use Rattle.lane_board.specs.Field.{Field, empty_field, difference, union}
use Rattle.lane_board.proofs.CallerLemmas.{cell_count-le}
use Rattle.srs.specs.declared.piece.Piece.{Piece}
use Rattle.srs.specs.declared.rotation.Rotation.{Rotation}
use Rattle.srs.specs.declared.rotation.Rotation.TheVariants.{Spawn, Right, Reverse, Left}
use Rattle.srs.specs.Canonical.{canonical_rotation}
use Rattle.srs.specs.Rotation.{clockwise_of, anticlockwise_of}
use Rattle.srs.proofs.CallerLemmas.{rotation_index-injective}
use Rattle.place_sets.specs.declared.spreading.Shifts.TheVariants as Shift
use Rattle.low_flood.specs.LaneFlood.{Lanes, IsLanesClosed}
use Rattle.low_flood.specs.LaneTurns.{arrivals}
use Rattle.place_sets.specs.Shifts.{IsSpread, sideways, lower}
use Rattle.low_flood.specs.SkyBoard.{sky_board, with_lower}
use Rattle.low_flood.specs.SoftLanes.{skies, with_rotation, states_of_canonical, rests_in, lacking, HaveAllRests, AreSpread, IsTurnedInto, IsRound, Rounds, IsSoftFlood}
use Rattle.place_sets.specs.States.{states_with}
use Rattle.place_sets.proofs.CallerLemmas.{LiesWithin, IsWithin, within_both, cell_count-more, fields-same, spread-has, still-has, same_states, with_here, with_other, missing}

pub spread_each : (N : ℕ) (free S T : Lanes) → IsSpread Shift.All N (free Spawn) (S Spawn) (T Spawn) → IsSpread Shift.All N (free Right) (S Right) (T Right) → IsSpread Shift.All N (free Reverse) (S Reverse) (T Reverse) → IsSpread Shift.All N (free Left) (S Left) (T Left) → AreSpread N free S T
spread_each N free S T a b c d = search rules

-- where nothing is lacking, all rests are held
none_lacks : (piece : Piece) (N : ℕ) (free S : Lanes) → ((r : Rotation) (x y : ℕ) → lacking piece N free S r x y ≡ false) → HaveAllRests piece N free S
unfolding lacking difference
none_lacks piece N free S none = record {
  each = λ r x y own rests. elim (cases_Bool (states_of_canonical piece S r x y)) [
    | inl held ↦ held
    | inr lost ↦ absurd (both_ways _ (none r x y) (ap (λ (G : Field). G x y) (cond-true _ (difference (rests_in N free r) (states_of_canonical piece S r)) empty_field own) ∙ and_from _ _ rests (not_from_false _ lost)))
  ];
}

pub all_rests_by : (piece : Piece) (N : ℕ) (free S : Lanes) (a b c d ab abc abcd : Field) (empty : Bool) → a ≡ lacking piece N free S Spawn → b ≡ lacking piece N free S Right → c ≡ lacking piece N free S Reverse → d ≡ lacking piece N free S Left →
    ab ≡ union a b → abc ≡ union ab c → abcd ≡ union abc d → (IsTrue empty ↔ (abcd ≡ empty_field)) → IsTrue empty → HaveAllRests piece N free S
unfolding union empty_field
all_rests_by piece N free S a b c d ab abc abcd empty is_a is_b is_c is_d is_ab is_abc is_abcd test held = none_lacks piece N free S none
  where
    nothing : (x y : ℕ) → abcd x y ≡ false
    nothing x y = ap (λ (G : Field). G x y) (test.0 held)

    within : (F G : Field) (x y : ℕ) → F ≡ G → F x y ≡ false → G x y ≡ false
    within F G x y e none = ap (λ (G : Field). G x y) (sym e) ∙ none

    first : (p q : Bool) → (p || q) ≡ false → p ≡ false
    first p q e = search rules

    second : (p q : Bool) → (p || q) ≡ false → q ≡ false
    second p q e = search (rules, false≢true)

    three : (x y : ℕ) → abc x y ≡ false
    three x y = first (abc x y) (d x y) (within abcd (union abc d) x y is_abcd (nothing x y))

    two : (x y : ℕ) → ab x y ≡ false
    two x y = first (ab x y) (c x y) (within abc (union ab c) x y is_abc (three x y))

    none : (r : Rotation) (x y : ℕ) → lacking piece N free S r x y ≡ false
    none Spawn x y = within a (lacking piece N free S Spawn) x y is_a (first (a x y) (b x y) (within ab (union a b) x y is_ab (two x y)))
    none Right x y = within b (lacking piece N free S Right) x y is_b (second (a x y) (b x y) (within ab (union a b) x y is_ab (two x y)))
    none Reverse x y = within c (lacking piece N free S Reverse) x y is_c (second (ab x y) (c x y) (within abc (union ab c) x y is_abc (three x y)))
    none Left x y = within d (lacking piece N free S Left) x y is_d (second (abc x y) (d x y) (within abcd (union abc d) x y is_abcd (nothing x y)))

-- T has all that S has
pub record Grows (S T : Lanes) : Type 0 where
  pub each : (r : Rotation) → IsWithin (S r) (T r)

pub grows_trans : (S T U : Lanes) → Grows S T → Grows T U → Grows S U
grows_trans S T U one two = record { each = λ r. record { has = λ x y held. (two.each r).has x y ((one.each r).has x y held) } }

grows_same : (S T : Lanes) → S ≡ T → Grows S T
grows_same S T e = record { each = λ r. record { has = λ x y held. ap (λ (U : Lanes). U r x y) (sym e) ∙ held } }

-- what changes in one rotation, and elsewhere not
pub in_rotation : (P : Rotation → Field → Type 0) (S : Lanes) (to : Rotation) (B : Field) → P to B → ((r : Rotation) → P r (S r)) → (r : Rotation) → P r (states_with S to B r)
in_rotation P S to B here others r =
    search (rules, cases_Bool, rotation_index-injective, eqb-true, with_here, with_other)

pub turned_grows : (piece : Piece) (N : ℕ) (free : Lanes) (to : Rotation) (S T : Lanes) → IsTurnedInto piece N free to S T → Grows S T
unfolding union
turned_grows piece N free to S T is = record {
  each = λ r. subst (λ (U : Lanes). IsWithin (S r) (U r)) (sym is.changed)
      (in_rotation (λ r B. IsWithin (S r) B) S to is.board
      (record { has = λ x y held. (spread-has Shift.All N (free to) _ is.board is.spread).has x y (or_left (S to x y) _ held) })
      (λ r. record { has = λ x y held. held }) r);
}

pub round_grows : (piece : Piece) (N : ℕ) (free S T : Lanes) → IsRound piece N free S T → Grows S T
round_grows piece N free S T is = search (rules, grows_trans, turned_grows)

pub rounds_grow : (n : ℕ) (piece : Piece) (N : ℕ) (free S T : Lanes) → Rounds n piece N free S T → Grows S T
rounds_grow zero piece N free S T e = grows_same S T e
rounds_grow (suc n) piece N free S T way = grows_trans S way.0 T (rounds_grow n piece N free S way.0 way.1.0) (round_grows piece N free way.0 T way.1.1)

-- fewer lane states are missing after a round that changes something
pub missing_less : (N : ℕ) (S T : Lanes) (r : Rotation) → Grows S T → ((r : Rotation) → LiesWithin (T r) N) → T r ≢ S r → missing N T < missing N S
missing_less N S T r grows lies differ = search (rules, cases_lt, fields-same, (cell_count-more (S r) (T r) (grows.each r) N), cell_count-le)

-- the flood so far
pub record IsSoFar (piece : Piece) (N : ℕ) (free S : Lanes) : Type 0 where
  pub start : Lanes
  pub spread : AreSpread N free (skies piece N free) start
  pub rounds : ℕ
  pub reached : Rounds rounds piece N free start S

pub begins : (piece : Piece) (N : ℕ) (free sky S : Lanes) → sky ≡ skies piece N free → AreSpread N free sky S → IsSoFar piece N free S
begins piece N free sky S e is = record { start = S; spread = subst (λ (sky : Lanes). AreSpread N free sky S) e is; rounds = 0; reached = refl }

pub goes_on : (piece : Piece) (N : ℕ) (free S T : Lanes) → IsSoFar piece N free S → IsRound piece N free S T → IsSoFar piece N free T
goes_on piece N free S T so_far round = record { start = so_far.start; spread = so_far.spread; rounds = suc so_far.rounds; reached = (S, (so_far.reached, round)) }

pub ends : (piece : Piece) (N : ℕ) (free S : Lanes) → IsSoFar piece N free S → HaveAllRests piece N free S ⊎ IsRound piece N free S S → IsSoftFlood piece N free S
ends piece N free S so_far last = record { start = so_far.start; begun = inr so_far.spread; rounds = so_far.rounds; reached = so_far.reached; ends = last }

pub ends_at_once : (piece : Piece) (N : ℕ) (free S : Lanes) → S ≡ skies piece N free → HaveAllRests piece N free S → IsSoftFlood piece N free S
ends_at_once piece N free S sky all = record { start = S; begun = inl sky; rounds = 0; reached = refl; ends = inl all }

-- the flood has the skies
pub begun_grows : (piece : Piece) (N : ℕ) (free S : Lanes) → (flood : IsSoftFlood piece N free S) → Grows (skies piece N free) S
begun_grows piece N free S flood = search (rules, grows_trans, rounds_grow, grows_same, spread-has)

pub still_round : (piece : Piece) (N : ℕ) (free S T : Lanes) → T ≡ S → IsRound piece N free S T → IsRound piece N free S S
still_round piece N free S T e round = subst (IsRound piece N free S) e round

-- where a round changes nothing, turns lead to nothing that is missing
module _ (piece : Piece) (N : ℕ) (free S : Lanes) (round : IsRound piece N free S S) where
  grow_one : Grows S round.one
  grow_one = turned_grows piece N free Spawn S round.one round.spawn

  grow_two : Grows round.one round.two
  grow_two = turned_grows piece N free Right round.one round.two round.right

  grow_three : Grows round.two round.three
  grow_three = turned_grows piece N free Reverse round.two round.three round.reverse

  grow_four : Grows round.three S
  grow_four = turned_grows piece N free Left round.three S round.left

  same_by : (T : Lanes) → Grows S T → Grows T S → T ≡ S
  same_by T there back = search (rules, (same_states T S), within_both, back.each, there.each)

  one_same : round.one ≡ S
  one_same = same_by round.one grow_one (grows_trans round.one round.two S grow_two (grows_trans round.two round.three S grow_three grow_four))

  two_same : round.two ≡ S
  two_same = same_by round.two (grows_trans S round.one round.two grow_one grow_two) (grows_trans round.two round.three S grow_three grow_four)

  three_same : round.three ≡ S
  three_same = same_by round.three (grows_trans S round.one round.three grow_one (grows_trans round.one round.two round.three grow_two grow_three)) grow_four

  into : (to : Rotation) → IsTurnedInto piece N free to S S
  into Spawn = subst (IsTurnedInto piece N free Spawn S) one_same round.spawn
  into Right = subst (λ (T : Lanes). IsTurnedInto piece N free Right T S) one_same (subst (IsTurnedInto piece N free Right round.one) two_same round.right)
  into Reverse = subst (λ (T : Lanes). IsTurnedInto piece N free Reverse T S) two_same (subst (IsTurnedInto piece N free Reverse round.two) three_same round.reverse)
  into Left = subst (λ (T : Lanes). IsTurnedInto piece N free Left T S) three_same round.left

  board_is : (to : Rotation) → (into to).board ≡ S to
  board_is to = sym (ap (λ (T : Lanes). T to) (into to).changed ∙ with_here S to (into to).board)

  has_into : (to : Rotation) (x y : ℕ) → union (arrivals piece (anticlockwise_of to) to N (free to) (S (anticlockwise_of to)) empty_field) (arrivals piece (clockwise_of to) to N (free to) (S (clockwise_of to)) empty_field) x y ≡ true → S to x y ≡ true
  unfolding union
  has_into to x y held = ap (λ (B : Field). B x y) (sym (board_is to)) ∙ (spread-has Shift.All N (free to) _ (into to).board (into to).spread).has x y (or_right (S to x y) _ held)

  by_clockwise : (to : Rotation) (x y : ℕ) → arrivals piece (anticlockwise_of to) to N (free to) (S (anticlockwise_of to)) empty_field x y ≡ true → S to x y ≡ true
  unfolding union
  by_clockwise to x y held = has_into to x y (or_left _ (arrivals piece (clockwise_of to) to N (free to) (S (clockwise_of to)) empty_field x y) held)

  by_anti : (to : Rotation) (x y : ℕ) → arrivals piece (clockwise_of to) to N (free to) (S (clockwise_of to)) empty_field x y ≡ true → S to x y ≡ true
  unfolding union
  by_anti to x y held = has_into to x y (or_right (arrivals piece (anticlockwise_of to) to N (free to) (S (anticlockwise_of to)) empty_field x y) _ held)

  clockwise : (r : Rotation) (x y : ℕ) → arrivals piece r (clockwise_of r) N (free (clockwise_of r)) (S r) empty_field x y ≡ true → S (clockwise_of r) x y ≡ true
  clockwise Spawn = by_clockwise Right
  clockwise Right = by_clockwise Reverse
  clockwise Reverse = by_clockwise Left
  clockwise Left = by_clockwise Spawn

  anti : (r : Rotation) (x y : ℕ) → arrivals piece r (anticlockwise_of r) N (free (anticlockwise_of r)) (S r) empty_field x y ≡ true → S (anticlockwise_of r) x y ≡ true
  anti Spawn = by_anti Left
  anti Right = by_anti Spawn
  anti Reverse = by_anti Right
  anti Left = by_anti Reverse

  pub round_closes : Grows (skies piece N free) S → IsLanesClosed piece N free S
  unfolding skies
  round_closes sky = record {
    beside = λ r x y near is_free. ap (λ (B : Field). B x y) (sym (board_is r)) ∙ still-has Shift.All N (free r) _ (into r).board (into r).spread x y is_free (subst (λ (B : Field). union (sideways N B) (lower N B) x y ≡ true) (sym (board_is r)) near);
    clockwise = clockwise;
    anti = anti;
    sky = λ r x y held. (sky.each r).has x y held;
  }

-- the sky is free
lower_has : (N rows : ℕ) (B : Field) (x y : ℕ) → B x y ≡ true → with_lower N rows B x y ≡ true
unfolding with_lower union
lower_has N rows B x y held = or_left (B x y) _ held

pub sky_is_free : (piece : Piece) (rotation : Rotation) (N : ℕ) (free : Field) → IsWithin (sky_board piece rotation N free) free
unfolding sky_board difference
sky_is_free piece rotation N free =
    search (rules, and_parts, cases_Bool, both_ways, not-true, lower_has, and_from, not_from_false)

-- the lane states of the rotations with one canonical rotation
pub record IsLaneStateOf (piece : Piece) (S : Lanes) (c : Rotation) (x y : ℕ) : Type 0 where
  pub r : Rotation
  pub canonical : canonical_rotation piece r ≡ c
  pub held : S r x y ≡ true

with_rotation-from : (piece : Piece) (S : Lanes) (c r : Rotation) (B : Field) (x y : ℕ) → with_rotation piece S c r B x y ≡ true → (B x y ≡ true) ⊎ IsLaneStateOf piece S c x y
unfolding with_rotation union
with_rotation-from piece S c r B x y held =
    search (rules, cases_Bool, or_cases, cond-true, rotation_index-injective, eqb-true, cond-false)

with_rotation-keeps : (piece : Piece) (S : Lanes) (c r : Rotation) (B : Field) (x y : ℕ) → B x y ≡ true → with_rotation piece S c r B x y ≡ true
unfolding with_rotation union
with_rotation-keeps piece S c r B x y held = search (rules, cases_Bool, cond-true, or_left, cond-false)

with_rotation-has : (piece : Piece) (S : Lanes) (c r : Rotation) (B : Field) (x y : ℕ) → canonical_rotation piece r ≡ c → S r x y ≡ true → with_rotation piece S c r B x y ≡ true
unfolding with_rotation union
with_rotation-has piece S c r B x y e held = search (rules, cond-true, eq-eqb, or_right)

pub states_of_canonical-from : (piece : Piece) (S : Lanes) (c : Rotation) (x y : ℕ) → states_of_canonical piece S c x y ≡ true → IsLaneStateOf piece S c x y
unfolding states_of_canonical empty_field
states_of_canonical-from piece S c x y held = search (rules, with_rotation-from, false≢true)

pub states_of_canonical-has : (piece : Piece) (S : Lanes) (r : Rotation) (x y : ℕ) → S r x y ≡ true → states_of_canonical piece S (canonical_rotation piece r) x y ≡ true
unfolding states_of_canonical empty_field
states_of_canonical-has piece S r x y held = search (rules, with_rotation-keeps, with_rotation-has)
