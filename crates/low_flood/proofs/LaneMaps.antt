-- The board of free lane states has the free states, and its resting ones the resting states.
use Rattle.std.proofs.Common.{◌≡◌, ◌↔◌, ℕ, suc, ◌<◌, ◌≤◌, Bool, true, false, not, ◌&&◌, ℤ, pos, ◌+ℤ◌, ◌-ℤ◌, ◌≤ℤ◌, List, [], ◌∷◌, map, refl, sym, ap, subst, ◌∙◌, arith, rules}
use Rattle.std.specs.Prelude.{neg_ℤ, nat_lt}
use Rattle.std.specs.List.{list_all}
use Rattle.std.proofs.lemmas.Int.{ints}
use Rattle.std.proofs.lemmas.Bool.{and_parts, and_from, or_left, or_right, or_from, both_ways, lt-ltb, ltb-true, le-leb, not-true, not_from_false, false_from_ne_true}
use Rattle.std.proofs.lemmas.List.Folds.{list_all-map}
use Rattle.std.proofs.Math.Bool.{and-true, and_assoc}
use Rattle.lane_board.specs.Field.{Field, empty_field, intersection, union, difference, moved_within, rows_below}
use Rattle.lane_board.proofs.CallerLemmas.{same_from_both}
use Rattle.srs.specs.declared.piece.Piece.{Piece}
use Rattle.srs.specs.declared.rotation.Rotation.{Rotation}
use Rattle.srs.specs.declared.placement.Placement.{Placement}
use Rattle.srs.specs.Cells.{Cell, minus, moved, shape}
use Rattle.srs.proofs.CallerLemmas.{each_state, int_le-true}
use Rattle.well.specs.Free.{is_open, is_free_at, is_free}
use Rattle.well.proofs.CallerLemmas.{open_at, free_pivot}
use Rattle.moves.specs.Rest.{lowered}
use Rattle.moves.specs.Height.{is_column, fits_column}
use Rattle.moves.specs.RestingStates.{IsResting}
use Rattle.moves.specs.Lanes.{lowest, lane}
use Rattle.moves.proofs.CallerLemmas.{column, natural, free_fits}
use Rattle.low_flood.specs.LaneShapes.{from_lane, lane_cells, is_near_lane}
use Rattle.low_flood.specs.LaneMap.{fitting, fitting_all, hit, hit_all, free_lanes, resting_lanes}
use Rattle.low_flood.specs.SkyBoard.{IsLaneMap, inside_lanes}
use Rattle.place_sets.proofs.CallerLemmas.{LiesWithin, same_fields, moved_from, moved_to, same_cell}
use Rattle.low_flood.proofs.LaneTurns.{free_lane}

pub record IsNearLane (cell : Cell) : Type 0 where
  pub left : minus 2 ≤ℤ cell.0
  pub right : cell.0 ≤ℤ pos 2
  pub low : pos 0 ≤ℤ cell.1
  pub high : cell.1 ≤ℤ pos 3

pub near_lane : (cell : Cell) → is_near_lane cell ≡ true → IsNearLane cell
near_lane cell near = search (rules, and_parts, int_le-true)

-- the cells of a piece lie in the lane and up to three rows above
shape_near_lane : (p : Piece) (r : Rotation) → list_all (λ c. is_near_lane (from_lane p r c)) (shape p r) ≡ true
shape_near_lane = each_state (λ p r. list_all (λ c. is_near_lane (from_lane p r c)) (shape p r)) refl

module _ (N : ℕ) where
  pub in_rows : (x y : ℕ) → x < 10 → y < N → rows_below N x y ≡ true
  unfolding rows_below
  in_rows x y column row = and_from _ _ (lt-ltb x 10 column) (lt-ltb y N row)

  pub from_rows : (x y : ℕ) → rows_below N x y ≡ true → (x < 10) × (y < N)
  unfolding rows_below
  from_rows x y inside = let parts = and_parts (nat_lt x 10) (nat_lt y N) inside in (ltb-true x 10 parts.0, ltb-true y N parts.1)

  -- one offset fits where it leads to a column
  one_fits : (x y : ℕ) (dx : ℤ) → x < 10 → y < N → moved_within (rows_below N) N (neg_ℤ dx) (pos 0) x y ≡ is_column (pos x +ℤ dx)
  unfolding moved
  one_fits x y dx col row = same_from_both _ _ there back
    where
      there : moved_within (rows_below N) N (neg_ℤ dx) (pos 0) x y ≡ true → is_column (pos x +ℤ dx) ≡ true
      there filled =
          let way = moved_from (rows_below N) N (neg_ℤ dx, pos 0) x y filled in
          let p : pos way.from_x +ℤ neg_ℤ dx ≡ pos x = ap (λ (c : Cell). c.0) way.there in
          let at : pos way.from_x ≡ pos x +ℤ dx = omega (arith, ints) in
          let within = from_rows way.from_x way.from_y way.filled in
          subst (λ (z : ℤ). is_column z ≡ true) at (le-leb way.from_x 9 (omega (arith, within.0)))

      back : is_column (pos x +ℤ dx) ≡ true → moved_within (rows_below N) N (neg_ℤ dx) (pos 0) x y ≡ true
      back fits =
          let to = column (pos x +ℤ dx) fits in
          let is = to.is in
          let p : pos to.n +ℤ neg_ℤ dx ≡ pos x = omega (arith, ints) in
          let q : pos y +ℤ pos 0 ≡ pos y = omega (arith, ints) in
          moved_to (rows_below N) N (neg_ℤ dx, pos 0) to.n y x y (in_rows to.n y (omega (arith, to.within)) row) (λ i. (p i, q i)) col row

  fits_all : (piece : Piece) (rotation : Rotation) (cells : List Cell) (S : Field) (x y : ℕ) → x < 10 → y < N →
      fitting_all N (map (from_lane piece rotation) cells) S x y ≡ (S x y && list_all (λ (c : Cell). is_column (pos x +ℤ c.0)) cells)
  unfolding fitting_all fitting intersection
  fits_all piece rotation [] S x y col row = sym (and-true (S x y))
  fits_all piece rotation (c ∷ cs) S x y col row =
      search (rules, (fits_all piece rotation cs (fitting N (from_lane piece rotation c) S) x y col row), (one_fits x y c.0 col row), (and_assoc (S x y) (is_column (pos x +ℤ c.0)) (list_all (λ (c : Cell). is_column (pos x +ℤ c.0)) cs)))

  fits_within : (cells : List Cell) (S : Field) → LiesWithin S N → LiesWithin (fitting_all N cells S) N
  unfolding fitting_all fitting intersection
  fits_within [] S lies = lies
  fits_within (c ∷ cs) S lies = fits_within cs (fitting N c S) (record { inside = λ x y held. lies.inside x y (and_parts (S x y) _ held).0 })

  pub fitting_inside : (piece : Piece) (rotation : Rotation) → fitting_all N (lane_cells piece rotation) (rows_below N) ≡ inside_lanes piece rotation N
  unfolding inside_lanes
  fitting_inside piece rotation = same_fields _ _ (λ x y. same_from_both _ _
      (λ held.
      let lies = (fits_within (lane_cells piece rotation) (rows_below N) (record { inside = from_rows })).inside x y held in
      sym (fits_all piece rotation (shape piece rotation) (rows_below N) x y lies.0 lies.1) ∙ held)
      (λ held.
      let lies = from_rows x y (and_parts (rows_below N x y) (fits_column piece rotation (pos x)) held).0 in
      fits_all piece rotation (shape piece rotation) (rows_below N) x y lies.0 lies.1 ∙ held))

-- the pivot of a lane state
abbrev pub lane_pivot : Piece → Rotation → ℕ → ℕ → Cell
lane_pivot piece rotation x y = (pos x, pos y -ℤ lowest (shape piece rotation))

module _ (F : Field) (N : ℕ) (lies : LiesWithin F N) (few : N ≤ 16) (piece : Piece) (rotation : Rotation) where
  is_hit : Cell → ℕ → ℕ → Bool
  is_hit c x y = moved_within F N (neg_ℤ (from_lane piece rotation c).0) (neg_ℤ (from_lane piece rotation c).1) x y

  -- an open cell is not hit
  open_missed : (c : Cell) (x y : ℕ) → is_open F (moved (lane_pivot piece rotation x y) c) ≡ true → is_hit c x y ≡ false
  unfolding is_hit moved is_open
  open_missed c x y opened = false_from_ne_true _ (λ filled.
      let way = moved_from F N (neg_ℤ (from_lane piece rotation c).0, neg_ℤ (from_lane piece rotation c).1) x y filled in
      let p : pos way.from_x +ℤ neg_ℤ c.0 ≡ pos x = ap (λ (c : Cell). c.0) way.there in
      let q : pos way.from_y +ℤ neg_ℤ (c.1 -ℤ lowest (shape piece rotation)) ≡ pos y = ap (λ (c : Cell). c.1) way.there in
      let a : pos x +ℤ c.0 ≡ pos way.from_x = omega (arith, ints) in
      let b : (pos y -ℤ lowest (shape piece rotation)) +ℤ c.1 ≡ pos way.from_y = omega (arith, ints) in
      let there : is_open F (pos way.from_x, pos way.from_y) ≡ true = subst (λ (c : Cell). is_open F c ≡ true) (same_cell _ _ a b) opened in
      both_ways _ (not-true _ (and_parts _ (not (F way.from_x way.from_y)) there).1) way.filled)

  -- and a cell in a column of the well that is not hit is open
  missed_open : (c : Cell) (x y : ℕ) → x < 10 → y < N → is_near_lane (from_lane piece rotation c) ≡ true → is_column (pos x +ℤ c.0) ≡ true → is_hit c x y ≡ false → is_open F (moved (lane_pivot piece rotation x y) c) ≡ true
  unfolding is_hit moved
  missed_open c x y col row near fits missed =
      let at = column (pos x +ℤ c.0) fits in
      let is_x = at.is in
      let by = near_lane (from_lane piece rotation c) near in
      let up = natural ((pos y -ℤ lowest (shape piece rotation)) +ℤ c.1) (omega (arith, ints, by.low)) in
      let is_y = up.is in
      let top : up.n ≤ 22 = omega (arith, ints, by.high) in
      sym (open_at F (pos x +ℤ c.0, (pos y -ℤ lowest (shape piece rotation)) +ℤ c.1) at.n up.n (same_cell _ _ is_x is_y) at.within top)
      ∙ not_from_false (F at.n up.n) (false_from_ne_true _ (λ filled.
      let p : pos at.n +ℤ neg_ℤ c.0 ≡ pos x = omega (arith, ints) in
      let q : pos up.n +ℤ neg_ℤ (c.1 -ℤ lowest (shape piece rotation)) ≡ pos y = omega (arith, ints) in
      both_ways _ missed (moved_to F N (neg_ℤ (from_lane piece rotation c).0, neg_ℤ (from_lane piece rotation c).1) at.n up.n x y filled (λ i. (p i, q i)) col row)))

  hits_keep : (cells : List Cell) (S : Field) (x y : ℕ) → S x y ≡ true → hit_all F N cells S x y ≡ true
  unfolding hit_all hit union
  hits_keep [] S x y held = held
  hits_keep (c ∷ cs) S x y held = hits_keep cs (hit F N c S) x y (or_left (S x y) _ held)

  -- lane states in which all cells are open are not hit
  all_missed : (cells : List Cell) (S : Field) (x y : ℕ) → S x y ≡ false → list_all (λ (c : Cell). is_open F (moved (lane_pivot piece rotation x y) c)) cells ≡ true → hit_all F N (map (from_lane piece rotation) cells) S x y ≡ false
  unfolding hit_all hit union is_hit
  all_missed [] S x y none opened = none
  all_missed (c ∷ cs) S x y none opened =
      let parts = and_parts (is_open F (moved (lane_pivot piece rotation x y) c)) (list_all (λ (c : Cell). is_open F (moved (lane_pivot piece rotation x y) c)) cs) opened in
      all_missed cs (hit F N (from_lane piece rotation c) S) x y (or_from (S x y) (is_hit c x y) none (open_missed c x y parts.0)) parts.1

  all_open : (cells : List Cell) (S : Field) (x y : ℕ) → x < 10 → y < N → list_all (λ c. is_near_lane (from_lane piece rotation c)) cells ≡ true → list_all (λ (c : Cell). is_column (pos x +ℤ c.0)) cells ≡ true →
      hit_all F N (map (from_lane piece rotation) cells) S x y ≡ false → list_all (λ (c : Cell). is_open F (moved (lane_pivot piece rotation x y) c)) cells ≡ true
  unfolding hit_all hit union is_hit
  all_open [] S x y col row near fits missed = refl
  all_open (c ∷ cs) S x y col row near fits missed =
      let nears = and_parts (is_near_lane (from_lane piece rotation c)) (list_all (λ c. is_near_lane (from_lane piece rotation c)) cs) near in
      let columns = and_parts (is_column (pos x +ℤ c.0)) (list_all (λ (c : Cell). is_column (pos x +ℤ c.0)) cs) fits in
      let not_here : is_hit c x y ≡ false = false_from_ne_true _ (λ here. both_ways _ missed (hits_keep (map (from_lane piece rotation) cs) (hit F N (from_lane piece rotation c) S) x y (or_right (S x y) (is_hit c x y) here))) in
      and_from _ _ (missed_open c x y col row nears.0 columns.0 not_here) (all_open cs (hit F N (from_lane piece rotation c) S) x y col row nears.1 columns.1 missed)

  pub free_lanes-exact : IsLaneMap F piece rotation N (free_lanes piece rotation N F)
  unfolding free_lanes difference inside_lanes is_free_at empty_field
  free_lanes-exact = record { exact = λ x y row. same_from_both _ _ (there x y row) (back x y row) }
    where
      there : (x y : ℕ) → y < N → free_lanes piece rotation N F x y ≡ true → is_free_at F piece rotation (lane_pivot piece rotation x y) ≡ true
      there x y row held = search (rules, (and_parts (inside_lanes piece rotation N x y) (not (hit_all F N (lane_cells piece rotation) empty_field x y))), (list_all-map (is_open F) (moved (lane_pivot piece rotation x y)) (shape piece rotation)), (all_open (shape piece rotation) empty_field x y), (from_rows N x y), (and_parts (rows_below N x y)), (shape_near_lane piece rotation), not-true)

      back : (x y : ℕ) → y < N → is_free_at F piece rotation (lane_pivot piece rotation x y) ≡ true → free_lanes piece rotation N F x y ≡ true
      back x y row free =
          let at = free_pivot F piece rotation (lane_pivot piece rotation x y) free in
          let is : pos x ≡ pos at.x = ap (λ (c : Cell). c.0) at.is in
          let col : x < 10 = omega (arith, ints, at.in_columns) in
          and_from _ _ (and_from _ _ (in_rows N x y col row) (free_fits F piece rotation (lane_pivot piece rotation x y) free))
          (not_from_false _ (all_missed (shape piece rotation) empty_field x y refl (sym (list_all-map (is_open F) (moved (lane_pivot piece rotation x y)) (shape piece rotation)) ∙ free)))

-- the lane state of a state is free where the state is
pub free_here : (F : Field) (N : ℕ) (s : Placement) (y : ℕ) → lane s ≡ pos y → y < N → (free : Field) → IsLaneMap F s.piece s.rotation N free → free s.x y ≡ is_free F s
free_here F N s y at below free is = search rules

-- the resting lane states of a set are those whose state cannot move down
module _ (F : Field) (N : ℕ) (s : Placement) (y : ℕ) (at : lane s ≡ pos y) (below : y < N) (free S : Field) (is : IsLaneMap F s.piece s.rotation N free) (lies : LiesWithin free N) where
  lower_free : (k : ℕ) → y ≡ suc k → free s.x k ≡ is_free_at F s.piece s.rotation (lowered s 1)
  lower_free k e = search rules

  -- a lane state is lifted from the one below
  lifted : moved_within free N (pos 0) (pos 1) s.x y ≡ is_free_at F s.piece s.rotation (lowered s 1)
  unfolding moved
  lifted = same_from_both _ _ there back
    where
      there : moved_within free N (pos 0) (pos 1) s.x y ≡ true → is_free_at F s.piece s.rotation (lowered s 1) ≡ true
      there filled =
          let way = moved_from free N (pos 0, pos 1) s.x y filled in
          let p : pos way.from_x +ℤ pos 0 ≡ pos s.x = ap (λ (c : Cell). c.0) way.there in
          let q : pos way.from_y +ℤ pos 1 ≡ pos y = ap (λ (c : Cell). c.1) way.there in
          let column : way.from_x ≡ s.x = omega (arith, ints) in
          let row : y ≡ suc way.from_y = omega (arith, ints) in
          sym (lower_free way.from_y row) ∙ subst (λ (x : ℕ). free x way.from_y ≡ true) column way.filled

      back : is_free_at F s.piece s.rotation (lowered s 1) ≡ true → moved_within free N (pos 0) (pos 1) s.x y ≡ true
      back lower =
          let n = free_lane F s.piece s.rotation (lowered s 1) lower in
          let is_n = n.is in
          let row : y ≡ suc n.n = omega (arith, ints) in
          let filled : free s.x n.n ≡ true = lower_free n.n row ∙ lower in
          let bounds = lies.inside s.x n.n filled in
          let p : pos s.x +ℤ pos 0 ≡ pos s.x = omega (arith, ints) in
          let q : pos n.n +ℤ pos 1 ≡ pos y = omega (arith, ints) in
          moved_to free N (pos 0, pos 1) s.x n.n s.x y filled (λ i. (p i, q i)) bounds.0 below

  pub resting_lanes-exact : (S s.x y ≡ true → is_free F s ≡ true) → (resting_lanes N free S s.x y ≡ true) ↔ (IsResting F s × (S s.x y ≡ true))
  unfolding resting_lanes difference
  resting_lanes-exact free_there = search (rules, (and_parts (S s.x y)), lifted, not-true, and_from, not_from_false)
