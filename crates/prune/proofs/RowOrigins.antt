-- Rows before and after full ones are removed: each row that is left was one that isn't full, and they keep their order.
use Rattle.std.proofs.Common.{◌≡◌, ℕ, zero, suc, ◌+◌, ◌-◌, ◌<◌, ◌≤◌, false, cond, ◌==◌, arith, rules}
use Rattle.std.specs.Prelude.{◌↔◌}
use Rattle.std.proofs.lemmas.Bool.{cases_Bool, cases_eq, cases_order, cond-true, cond-false, false_from_ne_true, false≢true, eq-eqb, ne_eqb}
use Rattle.lane_board.specs.Field.{Field}
use Rattle.lane_board.specs.FullRows.{is_full, full_below, without_full_rows}
use Rattle.lane_board.proofs.CallerLemmas.{full_below-full, full_below-other, full_below-le, lowered_from, lowered_rises, lowered_to, not_full_from_cell, one_row}
use Rattle.prune.specs.Tiling.{Supply, Tiling}
use Rattle.prune.proofs.RowMaps.{Before, SendsRows, tiling_to}
use Rattle.well.proofs.CallerLemmas.{full_below_height}

-- the row of G that is lowered to row y, among the rows below n
unfoldable origin : Field → ℕ → ℕ → ℕ
origin G zero y = 0
origin G (suc n) y = cond (is_full G n) (origin G n y) (cond (y + full_below G n == n) n (origin G n y))

record IsOrigin (G : Field) (n y row : ℕ) : Type 0 where
  pub below : row < n
  pub stays : is_full G row ≡ false
  pub lowered : y + full_below G row ≡ row

origin_is : (G : Field) (n y : ℕ) → y + full_below G n < n → IsOrigin G n y (origin G n y)
unfolding origin
origin_is G zero y within = absurd (omega arith)
origin_is G (suc n) y within =
    search (rules, cases_Bool, full_below-full, cond-true, cases_eq, cond-false, eq-eqb, full_below-other, ne_eqb, (origin_is G n y))

module _ (G : Field) (height : ℕ) (within : height ≤ 23) (none : (x y : ℕ) → height ≤ y → G x y ≡ false) where
  abbrev left : ℕ
  left = height - full_below G 23

  full_same : full_below G 23 ≡ full_below G height
  full_same = full_below_height G height within none

  origin_in : (y : ℕ) → y < left → IsOrigin G height y (origin G height y)
  origin_in y below = origin_is G height y (omega (arith, full_same))

  -- the row below the full ones under it is one of those that are left
  lowered_in : (z : ℕ) → z < height → is_full G z ≡ false → z - full_below G z < left
  lowered_in z below stays = omega (arith, full_same, lowered_rises G z height stays below, full_below-le G z)

  -- a cell of a row that is left is empty where it was
  still_empty : (x y row : ℕ) → is_full G row ≡ false → y + full_below G row ≡ row → G x row ≡ false → without_full_rows G 23 x y ≡ false
  still_empty x y row stays lowered empty = search (rules, false_from_ne_true, false≢true, (one_row G y row), (lowered_from G 23 x y))

  was_empty : (x y row : ℕ) → row < height → is_full G row ≡ false → y + full_below G row ≡ row → without_full_rows G 23 x y ≡ false → G x row ≡ false
  was_empty x y row below stays lowered empty = search (rules, false_from_ne_true, false≢true, lowered_to)

  raises : SendsRows (without_full_rows G 23) left G height (origin G height)
  raises = record {
    rises = λ x v y z _ _ below_y below_z _ _ lower. rise y z (origin_in y below_y) (origin_in z below_z) lower;
    below = λ x y _ below _. (origin_in y below).below;
    empty = λ x y _ below empty. let o = origin_in y below in was_empty x y (origin G height y) o.below o.stays o.lowered empty;
    before = λ x z column below empty. from x z below empty (not_full_from_cell G x z column empty);
  }
    where
      rise : (y z : ℕ) → IsOrigin G height y (origin G height y) → IsOrigin G height z (origin G height z) → y < z → origin G height y < origin G height z
      rise y z o p lower = search (rules, cases_order, lowered_rises)

      from : (x z : ℕ) → z < height → G x z ≡ false → is_full G z ≡ false → Before (without_full_rows G 23) left (origin G height) x z
      from x z below empty stays =
          let y = z - full_below G z in
          let lowered : y + full_below G z ≡ z = omega (arith, full_below-le G z) in
          let in_left = lowered_in z below stays in
          let o = origin_in y in_left in
          record { y = y; below = in_left; empty = still_empty x y z stays lowered empty; sent = one_row G y (origin G height y) z o.stays stays o.lowered lowered }

  lowers : SendsRows G height (without_full_rows G 23) left (λ z. z - full_below G z)
  lowers = record {
    rises = λ x v y z column_x column_v below_y below_z empty_y empty_z lower.
        omega (arith, lowered_rises G y z (not_full_from_cell G x y column_x empty_y) lower, full_below-le G y, full_below-le G z);
    below = λ x y column below empty. lowered_in y below (not_full_from_cell G x y column empty);
    empty = λ x y column below empty. still_empty x (y - full_below G y) y (not_full_from_cell G x y column empty) (omega (arith, full_below-le G y)) empty;
    before = λ x z column below empty. from x z (origin_in z below) empty;
  }
    where
      from : (x z : ℕ) → IsOrigin G height z (origin G height z) → without_full_rows G 23 x z ≡ false → Before G height (λ y. y - full_below G y) x z
      from x z o empty = record { y = origin G height z; below = o.below; empty = was_empty x z (origin G height z) o.below o.stays o.lowered empty; sent = omega (arith, o.lowered) }

  -- full rows may stand or be removed
  pub standing : (supply : Supply) → Tiling G height supply ↔ Tiling (without_full_rows G 23) left supply
  standing supply = (tiling_to G height (without_full_rows G 23) left (λ z. z - full_below G z) lowers supply, tiling_to (without_full_rows G 23) left G height (origin G height) raises supply)
