-- A set of pivots that turns goes where each of its pivots turns to.
use Rattle.std.proofs.Common.{◌≡◌, ℕ, true, false, pos, Some, List, [], ◌∷◌, map, inl, ◌⊎◌, rules}
use Rattle.std.specs.Prelude.{neg_ℤ}
use Rattle.std.proofs.lemmas.Bool.{cases_Bool, and_parts, and_from, or_cases, or_left, or_right, not-true, not_from_false, cond-true, cond-false, both_ways, false_from_ne_true}
use Rattle.lane_board.specs.Field.{Field, intersection, union, difference, moved_within}
use Rattle.srs.specs.declared.piece.Piece.{Piece}
use Rattle.srs.specs.declared.rotation.Rotation.{Rotation}
use Rattle.srs.specs.declared.placement.Placement.{Placement}
use Rattle.srs.specs.Cells.{Cell, moved}
use Rattle.moves.proofs.CallerLemmas.{not_some}
use Rattle.place_sets.specs.States.{States, has_pivot}
use Rattle.whole_flood.specs.Flood.{first_in}
use Rattle.whole_flood.specs.Kicks.{kicked_to, left_by, turned_from}
use Rattle.place_sets.proofs.CallerLemmas.{LiesWithin, moved_from, moved_to, moved_back, moved_forth, state_of, PivotAt, pivot_at, has_pivot-at}
use Rattle.srs.proofs.CallerLemmas.{some_same}

module _ (free : States) (N : ℕ) (piece : Piece) (to : Rotation) (lies : LiesWithin (free to) N) where
  -- a pivot of the set that the tests take to a cell
  pub record Arrives (S : Field) (moves : List Cell) (x y : ℕ) : Type 0 where
    pub from_x : ℕ
    pub from_y : ℕ
    pub filled : S from_x from_y ≡ true
    pub first : first_in free piece to (map (moved (pos from_x, pos from_y)) moves) ≡ Some (state_of piece to x y)

  -- a pivot that a test takes nowhere is left
  taken_away : (move : Cell) (S : Field) (x y : ℕ) → LiesWithin S N → S x y ≡ true → has_pivot free to (moved (pos x, pos y) move) ≡ true → moved_within (kicked_to (free to) N move S) N (neg_ℤ move.0) (neg_ℤ move.1) x y ≡ true
  unfolding kicked_to intersection
  taken_away move S x y within filled has =
      let at : PivotAt (free to) (moved (pos x, pos y) move) = pivot_at free to _ has in
      let there = lies.inside at.x at.y at.filled in
      let here = within.inside x y filled in
      moved_to (kicked_to (free to) N move S) N (neg_ℤ move.0, neg_ℤ move.1) at.x at.y x y
      (and_from _ _ at.filled (moved_to S N move x y at.x at.y filled at.is there.0 there.1))
      (moved_back x y at.x at.y move at.is) here.0 here.1

  taken_back : (move : Cell) (S : Field) (x y : ℕ) → moved_within (kicked_to (free to) N move S) N (neg_ℤ move.0) (neg_ℤ move.1) x y ≡ true → has_pivot free to (moved (pos x, pos y) move) ≡ true
  unfolding kicked_to intersection
  taken_back move S x y back =
      let way = moved_from (kicked_to (free to) N move S) N (neg_ℤ move.0, neg_ℤ move.1) x y back in
      let hit = and_parts (free to way.from_x way.from_y) _ way.filled in
      has_pivot-at free to _ way.from_x way.from_y (moved_forth way.from_x way.from_y x y move way.there) hit.0

  left_within : (move : Cell) (S : Field) → LiesWithin S N → LiesWithin (left_by N move (kicked_to (free to) N move S) S) N
  unfolding left_by difference
  left_within move S within = record { inside = λ x y filled. within.inside x y (and_parts (S x y) _ filled).0 }

  -- what is left was not taken
  left_not_taken : (move : Cell) (S : Field) (x y : ℕ) → LiesWithin S N → left_by N move (kicked_to (free to) N move S) S x y ≡ true → (S x y ≡ true) × (has_pivot free to (moved (pos x, pos y) move) ≡ false)
  unfolding left_by difference
  left_not_taken move S x y within left = search (rules, (and_parts (S x y)), false_from_ne_true, both_ways, not-true, (taken_away move S x y within))

  -- what was not taken is left
  not_taken_left : (move : Cell) (S : Field) (x y : ℕ) → S x y ≡ true → has_pivot free to (moved (pos x, pos y) move) ≡ false → left_by N move (kicked_to (free to) N move S) S x y ≡ true
  unfolding left_by difference
  not_taken_left move S x y filled none =
      and_from _ _ filled (not_from_false _ (false_from_ne_true _ (λ back. both_ways _ none (taken_back move S x y back))))

  -- each pivot that the set turns to is one that a pivot turns to
  pub arrives : (moves : List Cell) (S before : Field) (x y : ℕ) → LiesWithin S N → turned_from (free to) N moves S before x y ≡ true → (before x y ≡ true) ⊎ Arrives S moves x y
  unfolding turned_from kicked_to intersection first_in union
  arrives [] S before x y within held = inl held
  arrives (move ∷ moves) S before x y within held =
      search (rules, (arrives moves (left_by N move (kicked_to (free to) N move S) S) (union before (kicked_to (free to) N move S)) x y (left_within move S within) held), (moved_from S N move x y), (and_parts (free to x y)), cond-true, (has_pivot-at free to), or_cases, (left_not_taken move S), cond-false)

  -- what was reached before stays
  pub turned_keeps : (moves : List Cell) (S before : Field) (x y : ℕ) → before x y ≡ true → turned_from (free to) N moves S before x y ≡ true
  unfolding turned_from union
  turned_keeps [] S before x y held = held
  turned_keeps (move ∷ moves) S before x y held =
      turned_keeps moves (left_by N move (kicked_to (free to) N move S) S) (union before (kicked_to (free to) N move S)) x y (or_left _ _ held)

  -- the set turns to each pivot that one of its pivots turns to
  pub reaches : (moves : List Cell) (S before : Field) (a b : ℕ) (t : Placement) → LiesWithin S N → S a b ≡ true → first_in free piece to (map (moved (pos a, pos b)) moves) ≡ Some t → turned_from (free to) N moves S before t.x t.y ≡ true
  unfolding turned_from first_in union kicked_to intersection
  reaches [] S before a b t within filled e = absurd (not_some e)
  reaches (move ∷ moves) S before a b t within filled e =
      search (rules, cases_Bool, (turned_keeps moves), or_right, (pivot_at free), cond-true, (reaches moves), (left_within move S within), (not_taken_left move S a b filled), cond-false, some_same, and_from, (moved_to S N move a b))
