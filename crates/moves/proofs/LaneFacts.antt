-- The lane of a state against its cells and its upright height.
use Rattle.std.proofs.Common.{◌≡◌, ℕ, ◌+◌, ◌-◌, ◌<◌, ◌≤◌, Bool, true, false, not, ◌&&◌, pos, ◌+ℤ◌, ◌-ℤ◌, ◌≤ℤ◌, refl, sym, ap, ◌∙◌, arith, inl, inr, ◌⊎◌, rules}
use Rattle.std.specs.Prelude.{int_le, ◌<ℤ◌}
use Rattle.std.specs.List.{list_all}
use Rattle.std.proofs.lemmas.Int.{ints}
use Rattle.std.proofs.lemmas.Bool.{and_parts, both_ways, cases_lt, not-true}
use Rattle.lane_board.specs.Field.{Field}
use Rattle.srs.specs.declared.piece.Piece.{Piece}
use Rattle.srs.specs.declared.rotation.Rotation.{Rotation}
use Rattle.srs.specs.declared.placement.Placement.{Placement}
use Rattle.srs.specs.Cells.{Cell, minus, shape, cells_at, cells_of, pivot_of, in_well}
use Rattle.srs.specs.SameCells.{is_among}
use Rattle.srs.proofs.CallerLemmas.{less, is_among-moved, is_among-all, each_state, int_le-true}
use Rattle.well.specs.Free.{is_open, is_free_at, is_free}
use Rattle.well.proofs.CallerLemmas.{free_inside}
use Rattle.well.specs.LockLaws.{LiesBelow}
use Rattle.moves.specs.Height.{rise, upright}
use Rattle.moves.specs.Sky.{IsUnderSky}
use Rattle.moves.specs.RestingStates.{IsResting}
use Rattle.moves.specs.Lanes.{lowest, lane}
use Rattle.moves.proofs.OpenLemmas.{natural}
use Rattle.moves.proofs.HardLemmas.{lower_free}

-- no cell is lower than the lane, and the lane lies from two rows below the upright height up to it
unfoldable pub is_over : Piece → Rotation → Cell → Bool
is_over p r c = int_le (lowest (shape p r)) c.1

pub shape_over : (p : Piece) (r : Rotation) → list_all (is_over p r) (shape p r) ≡ true
unfolding is_over
shape_over = each_state (λ p r. list_all (is_over p r) (shape p r)) refl

pub lane_near : (p : Piece) (r : Rotation) → (int_le (minus 2) (lowest (shape p r) -ℤ rise p r) && int_le (lowest (shape p r) -ℤ rise p r) (pos 0)) ≡ true
lane_near = each_state (λ p r. int_le (minus 2) (lowest (shape p r) -ℤ rise p r) && int_le (lowest (shape p r) -ℤ rise p r) (pos 0)) refl

pub record IsNear (s : Placement) : Type 0 where
  pub low : upright s ≤ℤ (lane s +ℤ pos 2)
  pub high : lane s ≤ℤ upright s

pub near : (s : Placement) → IsNear s
near s = search (rules, and_parts, lane_near, int_le-true)

deep : (p : Piece) (r : Rotation) → int_le (minus 3) (lowest (shape p r)) ≡ true
deep = each_state (λ p r. int_le (minus 3) (lowest (shape p r))) refl

-- a lane is below N or not
pub cases_lane : (N : ℕ) (t : Placement) → (lane t <ℤ pos N) ⊎ (pos N ≤ℤ lane t)
cases_lane N t = search (rules, int_le-true, deep, natural, cases_lt)

-- a resting state has its lane no higher than the rows that may be filled
pub rest_lane : (F : Field) (r : ℕ) → LiesBelow F r → (t : Placement) → IsResting F t → lane t ≤ℤ pos r
unfolding is_over
rest_lane F r clear t rests = elim (cases_lane (r + 1) t) [
  | inl low ↦ omega (arith, ints)
  | inr tall ↦ absurd (both_ways _ rests.blocked (lower_free F r clear t rests.free (λ c has.
      let low = int_le-true (lowest (shape t.piece t.rotation)) c.1 (is_among-all (is_over t.piece t.rotation) (shape t.piece t.rotation) c (shape_over t.piece t.rotation) has) in
      omega (arith, ints))))
]

pub lowest_near : (p : Piece) (r : Rotation) → minus 2 ≤ℤ lowest (shape p r)
lowest_near p r = int_le-true (minus 2) (lowest (shape p r)) (each_state (λ p r. int_le (minus 2) (lowest (shape p r))) refl p r)

-- a free state lies under the sky where it is free at each lane on the way up to row r
pub sky_from : (F : Field) (r : ℕ) → LiesBelow F r → (t : Placement) → is_free F t ≡ true → ((j : ℕ) → (lane t +ℤ pos j) <ℤ pos r → is_free_at F t.piece t.rotation (pos t.x, pos (t.y + j)) ≡ true) → IsUnderSky F t
unfolding is_free_at is_open less is_over
sky_from F r clear t free above = record { inside = free_inside F t free; clear = λ x y k has up. elim (cases_lt k r) [ inl below ↦ not_filled x y k has up below | inr high ↦ clear.none x k high ] }
  where
    not_filled : (x y k : ℕ) → is_among (cells_of t) (pos x, pos y) ≡ true → y ≤ k → k < r → F x k ≡ false
    not_filled x y k has up below =
        let c = less (pos x, pos y) (pivot_of t) in
        let has_c : is_among (shape t.piece t.rotation) c ≡ true = sym (is_among-moved (pivot_of t) (shape t.piece t.rotation) (pos x, pos y)) ∙ has in
        let over = int_le-true (lowest (shape t.piece t.rotation)) c.1 (is_among-all (is_over t.piece t.rotation) (shape t.piece t.rotation) c (shape_over t.piece t.rotation) has_c) in
        let under : (lane t +ℤ pos (k - y)) <ℤ pos r = omega (arith, ints) in
        let raised : ◌≡◌ {A = Cell} (less (pos x, pos k) (pos t.x, pos (t.y + (k - y)))) c = (let same : pos k -ℤ pos (t.y + (k - y)) ≡ pos y -ℤ pos t.y = omega (arith, ints) in λ i. (pos x -ℤ pos t.x, same i)) in
        let has_up = is_among-moved (pos t.x, pos (t.y + (k - y))) (shape t.piece t.rotation) (pos x, pos k) ∙ ap (is_among (shape t.piece t.rotation)) raised ∙ has_c in
        let opened = is_among-all (is_open F) (cells_at t.piece t.rotation (pos t.x, pos (t.y + (k - y)))) (pos x, pos k) (above (k - y) under) has_up in
        not-true (F x k) (and_parts (in_well (pos x, pos k)) (not (F x k)) opened).1
