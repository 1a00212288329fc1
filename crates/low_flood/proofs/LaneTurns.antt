-- A quarter turn on lanes is a quarter turn: the lane states above the lanes are free where the columns allow it.
use Rattle.std.proofs.Common.{◌≡◌, ◌⊎◌, ℕ, ◌+◌, ◌<◌, ◌≤◌, Bool, true, false, not, ◌&&◌, cond, ltb-true, lt-ltb, ℤ, pos, negsuc, ◌+ℤ◌, ◌-ℤ◌, ◌≤ℤ◌, Some, List, [], ◌∷◌, map, refl, sym, ap, ◌∙◌, inl, inr, arith, rules}
use Rattle.std.specs.Prelude.{int_le}
use Rattle.std.specs.List.{list_all}
use Rattle.std.specs.Ordering.{int_eq}
use Rattle.std.specs.Cmp.{signed_Decides}
use Rattle.std.proofs.lemmas.Int.{ints}
use Rattle.std.proofs.lemmas.Bool.{and_parts, and_from, or_cases, or_left, or_right, cases_Bool, cases_lt, cond-true, cond-false, not-true, both_ways, false_from_ne_true}
use Rattle.std.proofs.lemmas.List.Folds.{list_all-map}
use Rattle.std.proofs.Math.Bool.{and-false}
use Rattle.lane_board.specs.Field.{Field, has_cell, union, difference, moved_within}
use Rattle.lane_board.proofs.CallerLemmas.{same_from_both}
use Rattle.srs.specs.declared.piece.Piece.{Piece}
use Rattle.srs.specs.declared.rotation.Rotation.{Rotation}
use Rattle.srs.specs.declared.placement.Placement.{Placement}
use Rattle.srs.specs.Cells.{Cell, minus, moved, shape, pivot_of, is_inside_of}
use Rattle.srs.specs.SameCells.{is_among as cells_have}
use Rattle.srs.specs.Canonical.{canonical_rotation, canonical_move}
use Rattle.srs.specs.Kick.{srs_table, kicks_of}
use Rattle.srs.specs.Rotation.{clockwise_of, anticlockwise_of}
use Rattle.srs.proofs.CallerLemmas.{LiesAt, in_well-place, inside_cell, is_among-all, each_state, int_le-true, some_same}
use Rattle.well.specs.Free.{is_open, is_free_at}
use Rattle.well.proofs.CallerLemmas.{open_in_well, free_pivot}
use Rattle.well.specs.LockLaws.{LiesBelow}
use Rattle.moves.specs.Step.{state_at, first_free}
use Rattle.moves.proofs.CallerLemmas.{not_some, natural, IsNatural, open_height, IsOpenHeight, open_free, free_fits, lane_near}
use Rattle.place_sets.proofs.CallerLemmas.{LiesWithin, moved_from, moved_to, MovedFrom}
use Rattle.moves.specs.Height.{rise, fits_column}
use Rattle.moves.specs.Lanes.{lowest, lane}
use Rattle.low_flood.proofs.ClassLemmas.{class_lane, class_free}
use Rattle.low_flood.specs.SkyBoard.{IsLaneMap}
use Rattle.low_flood.specs.LaneTurns.{opened, lane_move, hits, lane_turned}

-- a lowest cell
lowest_cell : List Cell → Cell
lowest_cell [] = (pos 9, pos 9)
lowest_cell (c ∷ cs) = cond (int_le c.1 (lowest cs)) c (lowest_cell cs)

has_lowest : (p : Piece) (r : Rotation) → cells_have (shape p r) (lowest_cell (shape p r)) ≡ true
unfolding lowest_cell cells_have
has_lowest = each_state (λ p r. cells_have (shape p r) (lowest_cell (shape p r))) refl

lowest_is : (p : Piece) (r : Rotation) → (lowest_cell (shape p r)).1 ≡ lowest (shape p r)
unfolding lowest_cell
lowest_is p r = (signed_Decides _ _).0 (each_state (λ p r. int_eq (lowest_cell (shape p r)).1 (lowest (shape p r))) refl p r)

-- the lane of a free piece is a row of the well
pub free_lane : (F : Field) (p : Piece) (r : Rotation) (pivot : Cell) → is_free_at F p r pivot ≡ true → IsNatural (pivot.1 +ℤ lowest (shape p r))
unfolding is_free_at moved
free_lane F p r pivot free =
    let opened_there = is_among-all (λ c. is_open F (moved pivot c)) (shape p r) (lowest_cell (shape p r)) (sym (list_all-map (is_open F) (moved pivot) (shape p r)) ∙ free) (has_lowest p r) in
    let lies = in_well-place (moved pivot (lowest_cell (shape p r))) (open_in_well F (moved pivot (lowest_cell (shape p r))) opened_there) in
    record { n = lies.y; is = ap (λ (z : ℤ). pivot.1 +ℤ z) (sym (lowest_is p r)) ∙ ap (λ (c : Cell). c.1) lies.is }

pub inside_lane : (s : Placement) → is_inside_of s ≡ true → IsNatural (lane s)
unfolding moved
inside_lane s inside =
    search (rules, (in_well-place (moved (pivot_of s) (lowest_cell (shape s.piece s.rotation))) (inside_cell s (lowest_cell (shape s.piece s.rotation)) inside (has_lowest s.piece s.rotation))), (lowest_is s.piece s.rotation))

module _ (F : Field) (r N : ℕ) (clear : LiesBelow F r) (over : r + 2 ≤ N) (piece : Piece) (to : Rotation) (free : Field) (is : IsLaneMap F piece to N free) where
  pivot_at : ℤ → ℤ → Cell
  pivot_at x y = (x, y -ℤ lowest (shape piece to))

  above : (x y : ℕ) → N ≤ y → y ≤ 18 → fits_column piece to (pos x) ≡ is_free_at F piece to (pivot_at (pos x) (pos y))
  unfolding pivot_at
  above x y high low =
      let parts = and_parts (int_le (minus 2) (lowest (shape piece to) -ℤ rise piece to)) (int_le (lowest (shape piece to) -ℤ rise piece to) (pos 0)) (lane_near piece to) in
      let a = int_le-true (minus 2) (lowest (shape piece to) -ℤ rise piece to) parts.0 in
      let b = int_le-true (lowest (shape piece to) -ℤ rise piece to) (pos 0) parts.1 in
      let h = natural ((pos y -ℤ lowest (shape piece to)) +ℤ rise piece to) (omega (arith, ints)) in
      let height = h.is in
      let room : IsOpenHeight piece r h.n = open_height piece r h.n (omega (arith, ints)) (omega (arith, ints)) in
      same_from_both _ _
      (λ fits. open_free F r clear h.n piece room to (pos x, pos y -ℤ lowest (shape piece to)) height fits)
      (λ is_free. free_fits F piece to (pos x, pos y -ℤ lowest (shape piece to)) is_free)

  left_of_all : (x : ℕ) (y : ℤ) → is_free_at F piece to (negsuc x, y -ℤ lowest (shape piece to)) ≡ false
  left_of_all x y = search (rules, false_from_ne_true, (free_pivot F piece to (negsuc x, y -ℤ lowest (shape piece to))))

  -- an open lane state is a free state, up to lane 18
  pub opened_exact : (x y : ℤ) → y ≤ℤ pos 18 → has_cell (opened piece to N free) x y ≡ is_free_at F piece to (x, y -ℤ lowest (shape piece to))
  unfolding has_cell opened pivot_at
  opened_exact (pos x) (pos y) low = search (rules, (cases_lt y N), cond-true, (lt-ltb y N), cond-false, false_from_ne_true, (ltb-true y N), (above x y))
  opened_exact (pos x) (negsuc y) low = sym (false_from_ne_true _ (λ is_free. let n = free_lane F piece to (pos x, negsuc y -ℤ lowest (shape piece to)) is_free in let e = n.is in absurd (omega (arith, ints))))
  opened_exact (negsuc x) (pos y) low = sym (left_of_all x (pos y))
  opened_exact (negsuc x) (negsuc y) low = sym (left_of_all x (negsuc y))

-- the lane state of a state: the column of its canonical pivot, and its lane
abbrev pub class_pivot : Piece → Rotation → ℤ → ℤ → Cell
class_pivot piece rotation x y = (x -ℤ (canonical_move piece rotation).0, y -ℤ lowest (shape piece rotation))

-- it is free where the canonical state with its cells is
pub class_lane_state : (F : Field) (piece : Piece) (rotation : Rotation) (x y : ℤ) → is_free_at F piece (canonical_rotation piece rotation) (x, y -ℤ lowest (shape piece (canonical_rotation piece rotation))) ≡ is_free_at F piece rotation (class_pivot piece rotation x y)
unfolding moved
class_lane_state F piece rotation x y =
    let m = canonical_move piece rotation in
    let low = class_lane piece rotation in
    let column : (x -ℤ m.0) +ℤ m.0 ≡ x = omega (arith, ints) in
    let row : (y -ℤ lowest (shape piece rotation)) +ℤ m.1 ≡ y -ℤ lowest (shape piece (canonical_rotation piece rotation)) = omega (arith, ints) in
    sym (class_free F piece rotation (class_pivot piece rotation x y) ∙ (λ i. is_free_at F piece (canonical_rotation piece rotation) (column i, row i)))

-- what is reached before stays
turned_keeps : (O : Field) (N : ℕ) (moves : List Cell) (S before : Field) (x y : ℕ) → before x y ≡ true → lane_turned O N moves S before x y ≡ true
unfolding lane_turned union
turned_keeps O N [] S before x y held = held
turned_keeps O N (m ∷ ms) S before x y held = turned_keeps O N ms (difference S (hits O m S)) (union before (moved_within (hits O m S) N m.0 m.1)) x y (or_left (before x y) (moved_within (hits O m S) N m.0 m.1 x y) held)

-- no test lifts a lane by more than three
pub is_low_move : Piece → Rotation → Rotation → Cell → Bool
is_low_move p from to kick = int_le (kick.1 +ℤ (lowest (shape p to) -ℤ lowest (shape p from))) (pos 3)

pub clockwise_low : (p : Piece) (r : Rotation) → list_all (is_low_move p r (clockwise_of r)) (kicks_of srs_table p r (clockwise_of r)) ≡ true
unfolding is_low_move
clockwise_low = each_state (λ p r. list_all (is_low_move p r (clockwise_of r)) (kicks_of srs_table p r (clockwise_of r))) refl

pub anti_low : (p : Piece) (r : Rotation) → list_all (is_low_move p r (anticlockwise_of r)) (kicks_of srs_table p r (anticlockwise_of r)) ≡ true
unfolding is_low_move
anti_low = each_state (λ p r. list_all (is_low_move p r (anticlockwise_of r)) (kicks_of srs_table p r (anticlockwise_of r))) refl

module _ (F : Field) (r N : ℕ) (clear : LiesBelow F r) (over : r + 2 ≤ N) (few : N ≤ 16) (piece : Piece) (from to : Rotation) (free : Field) (is : IsLaneMap F piece (canonical_rotation piece to) N free) where
  abbrev O : Field
  O = opened piece (canonical_rotation piece to) N free

  -- the pivot of the state of a lane state
  abbrev pivot : ℕ → ℕ → Cell
  pivot x y = class_pivot piece from (pos x) (pos y)

  abbrev pivots : ℕ → ℕ → List Cell → List Cell
  pivots x y kicks = map (moved (pivot x y)) kicks

  -- a test succeeds where its lane state is open
  hit_is : (x y : ℕ) (kick : Cell) → y < N → is_low_move piece from to kick ≡ true →
      has_cell O (pos x +ℤ (lane_move piece from to kick).0) (pos y +ℤ (lane_move piece from to kick).1) ≡ is_free_at F piece to (moved (pivot x y) kick)
  unfolding is_low_move moved
  hit_is x y kick below small =
      let low = int_le-true (kick.1 +ℤ (lowest (shape piece to) -ℤ lowest (shape piece from))) (pos 3) small in
      let move = lane_move piece from to kick in
      let column : (pos x +ℤ move.0) -ℤ (canonical_move piece to).0 ≡ (pos x -ℤ (canonical_move piece from).0) +ℤ kick.0 = omega (arith, ints) in
      let row : (pos y +ℤ move.1) -ℤ lowest (shape piece to) ≡ (pos y -ℤ lowest (shape piece from)) +ℤ kick.1 = omega (arith, ints) in
      opened_exact F r N clear over piece (canonical_rotation piece to) free is (pos x +ℤ move.0) (pos y +ℤ move.1) (omega (arith, ints))
      ∙ class_lane_state F piece to (pos x +ℤ move.0) (pos y +ℤ move.1)
      ∙ (λ i. is_free_at F piece to (column i, row i))

  turn_lane_state : (x y : ℕ) (k : Cell) (a b col row lx ly : ℕ) → moved (pivot x y) k ≡ (pos lx, pos ly) → lx ≡ col → ly ≡ row → pos col +ℤ (canonical_move piece to).0 ≡ pos a → pos row +ℤ lowest (shape piece to) ≡ pos b → moved (pos x, pos y) (lane_move piece from to k) ≡ (pos a, pos b)
  unfolding moved
  turn_lane_state x y k a b col row lx ly e f g column_is lane_is =
      let p : (pos x -ℤ (canonical_move piece from).0) +ℤ k.0 ≡ pos lx = ap (λ (c : Cell). c.0) e in
      let q : (pos y -ℤ lowest (shape piece from)) +ℤ k.1 ≡ pos ly = ap (λ (c : Cell). c.1) e in
      let column : pos x +ℤ (k.0 +ℤ ((canonical_move piece to).0 -ℤ (canonical_move piece from).0)) ≡ pos a = omega (arith, ints) in
      let lanes : pos y +ℤ (k.1 +ℤ (lowest (shape piece to) -ℤ lowest (shape piece from))) ≡ pos b = omega (arith, ints) in
      λ i. (column i, lanes i)

  -- each state to which a turn leads below lane N is among the arrivals
  pub turn_arrives : (kicks : List Cell) (S before : Field) (x y a b col row : ℕ) → list_all (is_low_move piece from to) kicks ≡ true → y < N → S x y ≡ true →
      first_free F piece to (pivots x y kicks) ≡ Some (record { piece = piece; rotation = to; x = col; y = row }) → pos col +ℤ (canonical_move piece to).0 ≡ pos a → pos row +ℤ lowest (shape piece to) ≡ pos b → a < 10 → b < N →
      lane_turned O N (map (lane_move piece from to) kicks) S before a b ≡ true
  unfolding lane_turned first_free difference hits union
  turn_arrives [] S before x y a b col row small below held e column_is lane_is column lanes = absurd (not_some e)
  turn_arrives (k ∷ ks) S before x y a b col row small below held e column_is lane_is column lanes =
      let parts = and_parts (is_low_move piece from to k) (list_all (is_low_move piece from to) ks) small in
      let move = lane_move piece from to k in
      let hit = hit_is x y k below parts.0 in
      elim (cases_Bool (is_free_at F piece to (moved (pivot x y) k))) [
        | inl there ↦ arrives (and_from (S x y) _ held (hit ∙ there)) (sym (cond-true _ (state_at piece to (moved (pivot x y) k)) (first_free F piece to (pivots x y ks)) there) ∙ e) (free_pivot F piece to (moved (pivot x y) k) there)
        | inr blocked ↦
            turn_arrives ks (difference S (hits O move S)) (union before (moved_within (hits O move S) N move.0 move.1)) x y a b col row parts.1 below
            (and_from (S x y) _ held (ap not (missed move (hit ∙ blocked))))
            (sym (cond-false _ (state_at piece to (moved (pivot x y) k)) (first_free F piece to (pivots x y ks)) blocked) ∙ e) column_is lane_is column lanes
      ]
    where
      missed : (move : Cell) → has_cell O (pos x +ℤ move.0) (pos y +ℤ move.1) ≡ false → (S x y && has_cell O (pos x +ℤ move.0) (pos y +ℤ move.1)) ≡ false
      missed move none = ap (λ b. S x y && b) none ∙ and-false (S x y)

      arrives : hits O (lane_move piece from to k) S x y ≡ true → state_at piece to (moved (pivot x y) k) ≡ Some (record { piece = piece; rotation = to; x = col; y = row }) → LiesAt (moved (pivot x y) k) → lane_turned O N (map (lane_move piece from to) (k ∷ ks)) S before a b ≡ true
      arrives hit lands lies =
          let same = some_same (sym (ap (state_at piece to) lies.is) ∙ lands) in
          let at_x : lies.x ≡ col = ap (λ (s : Placement). s.x) same in
          let at_y : lies.y ≡ row = ap (λ (s : Placement). s.y) same in
          let there = turn_lane_state x y k a b col row lies.x lies.y lies.is at_x at_y column_is lane_is in
          let move = lane_move piece from to k in
          turned_keeps O N (map (lane_move piece from to) ks) (difference S (hits O move S)) (union before (moved_within (hits O move S) N move.0 move.1)) a b
          (or_right (before a b) (moved_within (hits O move S) N move.0 move.1 a b) (moved_to (hits O move S) N move x y a b hit there column lanes))

  -- each arrival is one that was there before, or the state to which a turn leads from a lane state
  pub record Arrived (kicks : List Cell) (S : Field) (a b : ℕ) : Type 0 where
    pub x : ℕ
    pub y : ℕ
    pub held : S x y ≡ true
    pub col : ℕ
    pub row : ℕ
    pub column_is : pos col +ℤ (canonical_move piece to).0 ≡ pos a
    pub lane_is : pos row +ℤ lowest (shape piece to) ≡ pos b
    pub turns : first_free F piece to (pivots x y kicks) ≡ Some (record { piece = piece; rotation = to; x = col; y = row })

  arrived_by : (k : Cell) (ks : List Cell) (S : Field) (a b : ℕ) → is_low_move piece from to k ≡ true → LiesWithin S N → MovedFrom (hits O (lane_move piece from to k) S) (lane_move piece from to k) a b → Arrived (k ∷ ks) S a b
  unfolding hits first_free moved
  arrived_by k ks S a b small lies way =
      let move = lane_move piece from to k in
      let parts = and_parts (S way.from_x way.from_y) (has_cell O (pos way.from_x +ℤ move.0) (pos way.from_y +ℤ move.1)) way.filled in
      let bounds = lies.inside way.from_x way.from_y parts.0 in
      let there : is_free_at F piece to (moved (pivot way.from_x way.from_y) k) ≡ true = sym (hit_is way.from_x way.from_y k bounds.1 small) ∙ parts.1 in
      let at = free_pivot F piece to (moved (pivot way.from_x way.from_y) k) there in
      let p : (pos way.from_x -ℤ (canonical_move piece from).0) +ℤ k.0 ≡ pos at.x = ap (λ (c : Cell). c.0) at.is in
      let q : (pos way.from_y -ℤ lowest (shape piece from)) +ℤ k.1 ≡ pos at.y = ap (λ (c : Cell). c.1) at.is in
      let u : pos way.from_x +ℤ (k.0 +ℤ ((canonical_move piece to).0 -ℤ (canonical_move piece from).0)) ≡ pos a = ap (λ (c : Cell). c.0) way.there in
      let v : pos way.from_y +ℤ (k.1 +ℤ (lowest (shape piece to) -ℤ lowest (shape piece from))) ≡ pos b = ap (λ (c : Cell). c.1) way.there in
      record {
        x = way.from_x;
        y = way.from_y;
        held = parts.0;
        col = at.x;
        row = at.y;
        column_is = omega (arith, ints);
        lane_is = omega (arith, ints);
        turns =
            cond-true _ (state_at piece to (moved (pivot way.from_x way.from_y) k)) (first_free F piece to (pivots way.from_x way.from_y ks)) there
            ∙ ap (state_at piece to) at.is;
      }

  pub arrived : (kicks : List Cell) (S before : Field) (a b : ℕ) → list_all (is_low_move piece from to) kicks ≡ true → LiesWithin S N →
      lane_turned O N (map (lane_move piece from to) kicks) S before a b ≡ true → (before a b ≡ true) ⊎ Arrived kicks S a b
  unfolding lane_turned first_free difference hits union
  arrived [] S before a b small lies held = inl held
  arrived (k ∷ ks) S before a b small lies held =
      let parts = and_parts (is_low_move piece from to k) (list_all (is_low_move piece from to) ks) small in
      let move = lane_move piece from to k in
      let left = difference S (hits O move S) in
      let fewer : LiesWithin left N = record { inside = λ x y h. lies.inside x y (and_parts (S x y) _ h).0 } in
      elim (arrived ks left (union before (moved_within (hits O move S) N move.0 move.1)) a b parts.1 fewer held) [
        | inl old ↦ elim (or_cases (before a b) (moved_within (hits O move S) N move.0 move.1 a b) old) [
          | inl was ↦ inl was
          | inr new ↦ inr (arrived_by k ks S a b parts.0 lies (moved_from (hits O move S) N move a b new))
        ]
        | inr later ↦
            let both = and_parts (S later.x later.y) (not (hits O move S later.x later.y)) later.held in
            let bounds = lies.inside later.x later.y both.0 in
            let none : has_cell O (pos later.x +ℤ move.0) (pos later.y +ℤ move.1) ≡ false = false_from_ne_true _ (λ has. both_ways _ (not-true _ both.1) (and_from (S later.x later.y) _ both.0 has)) in
            let blocked : is_free_at F piece to (moved (pivot later.x later.y) k) ≡ false = sym (hit_is later.x later.y k bounds.1 parts.0) ∙ none in
            inr (record {
              x = later.x;
              y = later.y;
              held = both.0;
              col = later.col;
              row = later.row;
              column_is = later.column_is;
              lane_is = later.lane_is;
              turns = cond-false _ (state_at piece to (moved (pivot later.x later.y) k)) (first_free F piece to (pivots later.x later.y ks)) blocked ∙ later.turns;
            })
      ]
