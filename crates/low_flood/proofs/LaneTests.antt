-- One test of a turn on boards finds the lane states from which the test leads to an open one; five tests are a turn.
use Rattle.std.proofs.Common.{◌≡◌, ℕ, ◌+◌, ◌-◌, ◌<◌, ◌≤◌, true, false, ◌&&◌, lt-ltb, ℤ, pos, negsuc, ◌+ℤ◌, ◌≤ℤ◌, List, [], ◌∷◌, refl, sym, ap, ◌∙◌, inl, inr, arith, rules}
use Rattle.std.specs.Prelude.{neg_ℤ, nat_abs, ◌<ℤ◌}
use Rattle.std.proofs.lemmas.Int.{ints}
use Rattle.std.proofs.lemmas.Bool.{and_parts, and_from, or_cases, or_left, or_right, cases_lt, cond-true, cond-false, not-true, not_from_false, both_ways, false_from_ne_true, le-ltb, false≢true}
use Rattle.lane_board.specs.Field.{Field, has_cell, intersection, union, difference, moved_within, rows_below}
use Rattle.lane_board.proofs.CallerLemmas.{same_from_both}
use Rattle.srs.specs.declared.piece.Piece.{Piece}
use Rattle.srs.specs.declared.rotation.Rotation.{Rotation}
use Rattle.srs.specs.Canonical.{canonical_rotation}
use Rattle.srs.specs.Cells.{Cell, moved}
use Rattle.srs.specs.Kick.{srs_table, kick_in}
use Rattle.srs.proofs.CallerLemmas.{is_among-all, origin, pivot_in_shape}
use Rattle.moves.specs.Height.{fits_column}
use Rattle.moves.proofs.CallerLemmas.{column}
use Rattle.low_flood.specs.LaneTests.{not_below_zero, opening}
use Rattle.low_flood.specs.LaneTurns.{opened, lane_move, hits, lane_turned, arrivals}
use Rattle.low_flood.specs.SkyBoard.{inside_lanes}
use Rattle.place_sets.proofs.CallerLemmas.{LiesWithin, same_fields, moved_from, moved_to}
use Rattle.low_flood.proofs.LaneMaps.{in_rows, from_rows}

pub staying_all : (n : ℕ) (z : ℤ) → z ≤ℤ pos 0 → n ≡ n - not_below_zero z
staying_all n z h = search rules

pub staying_some : (n : ℕ) (z : ℤ) → pos 0 <ℤ z → n - nat_abs z ≡ n - not_below_zero z
staying_some n z h = search rules

-- a column that fits is one of the well
fits_small : (piece : Piece) (rotation : Rotation) (x : ℕ) → fits_column piece rotation (pos x) ≡ true → x < 10
unfolding origin
fits_small piece rotation x fits = search (rules, column, is_among-all, pivot_in_shape)

-- what a move leaves on the board lies there
pub moved-within : (S : Field) (n : ℕ) (dx dy : ℤ) (x y : ℕ) → moved_within S n dx dy x y ≡ true → (x < 10) × (y < n)
unfolding moved_within
moved-within S n dx dy x y held = from_rows n x y (and_parts (rows_below n x y) _ held).0

-- so do the arrivals of a turn
pub turned_within : (O : Field) (N : ℕ) (moves : List Cell) (S before : Field) → LiesWithin before N → LiesWithin (lane_turned O N moves S before) N
unfolding lane_turned union
turned_within O N [] S before lies = lies
turned_within O N (m ∷ ms) S before lies =
    search (rules, or_cases, moved-within, (turned_within O N ms (difference S (hits O m S)) (union before (moved_within (hits O m S) N m.0 m.1))))

less_both : (F G : Field) → difference F G ≡ difference F (intersection F G)
unfolding difference intersection
less_both F G = search (rules, same_fields)

module _ (N : ℕ) (piece : Piece) (rotation : Rotation) (free : Field) (lies : LiesWithin free N) (move : Cell) where
  abbrev O : Field
  O = opened piece rotation N free

  abbrev inside : Field
  inside = inside_lanes piece rotation N

  -- below the lanes' end a lane state is open where it is free
  opens_free : (x y : ℕ) → y < N → O x y ≡ free x y
  unfolding opened
  opens_free x y below = cond-true _ (free x y) (fits_column piece rotation (pos x)) (lt-ltb y N below)

  opens_above : (x y : ℕ) → N ≤ y → O x y ≡ fits_column piece rotation (pos x)
  unfolding opened
  opens_above x y high = cond-false _ (free x y) (fits_column piece rotation (pos x)) (le-ltb y N high)

  open_there : (x y a b : ℕ) → moved (pos x, pos y) move ≡ (pos a, pos b) → O a b ≡ true → x < 10 → y < N → opening N free inside move x y ≡ true
  unfolding opening union difference moved inside_lanes
  open_there x y a b e opened_at column row =
      let p : pos x +ℤ move.0 ≡ pos a = ap (λ (c : Cell). c.0) e in
      let q : pos y +ℤ move.1 ≡ pos b = ap (λ (c : Cell). c.1) e in
      let back_x : pos a +ℤ neg_ℤ move.0 ≡ pos x = omega (arith, ints) in
      let back_y : pos b +ℤ neg_ℤ move.1 ≡ pos y = omega (arith, ints) in
      let still : pos y +ℤ pos 0 ≡ pos y = omega (arith, ints) in
      elim (cases_lt b N) [
        | inl below ↦ or_left _ _ (moved_to free N (neg_ℤ move.0, neg_ℤ move.1) a b x y (sym (opens_free a b below) ∙ opened_at) (λ i. (back_x i, back_y i)) column row)
        | inr high ↦
            let fits = sym (opens_above a b high) ∙ opened_at in
            or_right (moved_within free N (neg_ℤ move.0) (neg_ℤ move.1) x y) _ (and_from _ _
            (moved_to inside N (neg_ℤ move.0, pos 0) a y x y (and_from _ _ (in_rows N a y (fits_small piece rotation a fits) row) fits) (λ i. (back_x i, still i)) column row)
            (not_from_false _ (false_from_ne_true _ (λ stays. let bounds = from_rows (N - not_below_zero move.1) x y stays in too_low move.1 q high bounds.1))))
      ]
    where
      too_low : (z : ℤ) → pos y +ℤ z ≡ pos b → N ≤ b → y < N - not_below_zero z → ⊥
      too_low (pos k) q high stays = omega (arith, ints)
      too_low (negsuc k) q high stays = omega (arith, ints)

  record Opens (x y : ℕ) : Type 0 where
    a : ℕ
    b : ℕ
    is : moved (pos x, pos y) move ≡ (pos a, pos b)
    opens : O a b ≡ true

  there_open : (x y : ℕ) → y < N → opening N free inside move x y ≡ true → Opens x y
  unfolding opening union difference moved inside_lanes
  there_open x y row held = elim (or_cases (moved_within free N (neg_ℤ move.0) (neg_ℤ move.1) x y) _ held) [
    | inl on ↦
        let way = moved_from free N (neg_ℤ move.0, neg_ℤ move.1) x y on in
        let p : pos way.from_x +ℤ neg_ℤ move.0 ≡ pos x = ap (λ (c : Cell). c.0) way.there in
        let q : pos way.from_y +ℤ neg_ℤ move.1 ≡ pos y = ap (λ (c : Cell). c.1) way.there in
        let bounds = lies.inside way.from_x way.from_y way.filled in
        let to_x : pos x +ℤ move.0 ≡ pos way.from_x = omega (arith, ints) in
        let to_y : pos y +ℤ move.1 ≡ pos way.from_y = omega (arith, ints) in
        record { a = way.from_x; b = way.from_y; is = λ i. (to_x i, to_y i); opens = opens_free way.from_x way.from_y bounds.1 ∙ way.filled }
    | inr over ↦
        let parts = and_parts (moved_within inside N (neg_ℤ move.0) (pos 0) x y) _ over in
        let way = moved_from inside N (neg_ℤ move.0, pos 0) x y parts.0 in
        let p : pos way.from_x +ℤ neg_ℤ move.0 ≡ pos x = ap (λ (c : Cell). c.0) way.there in
        let in_parts = and_parts (rows_below N way.from_x way.from_y) (fits_column piece rotation (pos way.from_x)) way.filled in
        let bounds = from_rows N way.from_x way.from_y in_parts.0 in
        let column : pos x +ℤ move.0 ≡ pos way.from_x = omega (arith, ints) in
        let left : (N - not_below_zero move.1) ≤ y = high (not-true _ parts.1) (moved-within inside N (neg_ℤ move.0) (pos 0) x y parts.0).0 in
        let up = risen move.1 left in
        record { a = way.from_x; b = up.0; is = λ i. (column i, up.1 i); opens = opens_above way.from_x up.0 up.2 ∙ in_parts.1 }
  ]
    where
      high : rows_below (N - not_below_zero move.1) x y ≡ false → x < 10 → (N - not_below_zero move.1) ≤ y
      high none col = elim (cases_lt y (N - not_below_zero move.1)) [
        | inl below ↦ absurd (both_ways _ none (in_rows (N - not_below_zero move.1) x y col below))
        | inr above ↦ above
      ]

      risen : (z : ℤ) → (N - not_below_zero z) ≤ y → (b : ℕ) × (pos y +ℤ z ≡ pos b) × (N ≤ b)
      risen (pos k) left = (y + k, omega (arith, ints), omega arith)
      risen (negsuc k) left = absurd (omega arith)

  -- the lane states of a set from which the move leads to an open one
  pub hits-by : (S : Field) → LiesWithin S N → intersection S (opening N free inside move) ≡ hits O move S
  unfolding intersection hits moved has_cell
  hits-by S within = same_fields _ _ (λ x y. same_from_both _ _ (there x y) (back x y))
    where
      there : (x y : ℕ) → (S x y && opening N free inside move x y) ≡ true → (S x y && has_cell O (pos x +ℤ move.0) (pos y +ℤ move.1)) ≡ true
      there x y held =
          let parts = and_parts (S x y) (opening N free inside move x y) held in
          let opens = there_open x y (within.inside x y parts.0).1 parts.1 in
          and_from _ _ parts.0 (has_at opens.a opens.b opens.is opens.opens)
        where
          has_pos : (a b : ℕ) → O a b ≡ true → has_cell O (pos a) (pos b) ≡ true
          has_pos a b opened_at = opened_at

          has_at : (a b : ℕ) → moved (pos x, pos y) move ≡ (pos a, pos b) → O a b ≡ true → has_cell O (pos x +ℤ move.0) (pos y +ℤ move.1) ≡ true
          has_at a b e opened_at = ap (λ (c : Cell). has_cell O c.0 c.1) e ∙ has_pos a b opened_at

      back : (x y : ℕ) → (S x y && has_cell O (pos x +ℤ move.0) (pos y +ℤ move.1)) ≡ true → (S x y && opening N free inside move x y) ≡ true
      back x y held =
          let parts = and_parts (S x y) (has_cell O (pos x +ℤ move.0) (pos y +ℤ move.1)) held in
          let bounds = within.inside x y parts.0 in
          and_from _ _ parts.0 (at (pos x +ℤ move.0) (pos y +ℤ move.1) refl refl parts.1 bounds.0 bounds.1)
        where
          at : (c d : ℤ) → pos x +ℤ move.0 ≡ c → pos y +ℤ move.1 ≡ d → has_cell O c d ≡ true → x < 10 → y < N → opening N free inside move x y ≡ true
          at (pos a) (pos b) p q opened_at col row = open_there x y a b (λ i. (p i, q i)) opened_at col row
          at (pos a) (negsuc b) p q opened_at col row = absurd (false≢true opened_at)
          at (negsuc a) (pos b) p q opened_at col row = absurd (false≢true opened_at)
          at (negsuc a) (negsuc b) p q opened_at col row = absurd (false≢true opened_at)

  pub left-by : (S : Field) → LiesWithin S N → difference S (opening N free inside move) ≡ difference S (hits O move S)
  left-by S within = less_both S (opening N free inside move) ∙ ap (difference S) (hits-by S within)

-- one test after the other
one_test : (O : Field) (N : ℕ) (k : Cell) (ks : List Cell) (S B l r : Field) → l ≡ difference S (hits O k S) → r ≡ union B (moved_within (hits O k S) N k.0 k.1) → lane_turned O N (k ∷ ks) S B ≡ lane_turned O N ks l r
unfolding lane_turned
one_test O N k ks S B l r left reached = search rules

-- what one call gives
pub record IsTested (N : ℕ) (free inside : Field) (k : Cell) (S B l r : Field) : Type 0 where
  pub left : l ≡ difference S (opening N free inside k)
  pub reached : r ≡ union B (moved_within (intersection S (opening N free inside k)) N k.0 k.1)

next_test : (N : ℕ) (piece : Piece) (c : Rotation) (free inside : Field) → LiesWithin free N → inside ≡ inside_lanes piece c N → (k : Cell) (ks : List Cell) (S B l r : Field) → LiesWithin S N → IsTested N free inside k S B l r →
    lane_turned (opened piece c N free) N (k ∷ ks) S B ≡ lane_turned (opened piece c N free) N ks l r
next_test N piece c free board lies is k ks S B l r within t =
    one_test (opened piece c N free) N k ks S B l r
    (t.left ∙ ap (λ (I : Field). difference S (opening N free I k)) is ∙ left-by N piece c free lies k S within)
    (t.reached ∙ ap (λ (I : Field). union B (moved_within (intersection S (opening N free I k)) N k.0 k.1)) is ∙ ap (λ (H : Field). union B (moved_within H N k.0 k.1)) (hits-by N piece c free lies k S within))

pub five_tests : (N : ℕ) (piece : Piece) (from to : Rotation) (c : Rotation) (free inside S B none l1 r1 l2 r2 l3 r3 l4 r4 l5 r5 : Field) (k1 k2 k3 k4 k5 : Cell) → c ≡ canonical_rotation piece to → LiesWithin free N → inside ≡ inside_lanes piece c N → B ≡ none →
    LiesWithin S N → LiesWithin l1 N → LiesWithin l2 N → LiesWithin l3 N → LiesWithin l4 N →
    k1 ≡ lane_move piece from to (kick_in srs_table piece from to 1) → k2 ≡ lane_move piece from to (kick_in srs_table piece from to 2) → k3 ≡ lane_move piece from to (kick_in srs_table piece from to 3) → k4 ≡ lane_move piece from to (kick_in srs_table piece from to 4) → k5 ≡ lane_move piece from to (kick_in srs_table piece from to 5) →
    IsTested N free inside k1 S B l1 r1 → IsTested N free inside k2 l1 r1 l2 r2 → IsTested N free inside k3 l2 r2 l3 r3 → IsTested N free inside k4 l3 r3 l4 r4 → IsTested N free inside k5 l4 r4 l5 r5 → r5 ≡ arrivals piece from to N free S none
unfolding lane_turned
five_tests N piece from to c free board S B none l1 r1 l2 r2 l3 r3 l4 r4 l5 r5 k1 k2 k3 k4 k5 is_c lies is is_none w w1 w2 w3 w4 e1 e2 e3 e4 e5 t1 t2 t3 t4 t5 =
    search (rules, (next_test N piece c free board lies is k1 (k2 ∷ k3 ∷ k4 ∷ k5 ∷ []) S B l1 r1 w t1), (next_test N piece c free board lies is k2 (k3 ∷ k4 ∷ k5 ∷ []) l1 r1 l2 r2 w1 t2), (next_test N piece c free board lies is k3 (k4 ∷ k5 ∷ []) l2 r2 l3 r3 w2 t3), (next_test N piece c free board lies is k4 (k5 ∷ []) l3 r3 l4 r4 w3 t4), (next_test N piece c free board lies is k5 [] l4 r4 l5 r5 w4 t5))
