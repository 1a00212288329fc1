-- A set of rows in each of ten columns.
use Rattle.std.proofs.Common.{◌≡◌, ℕ, ◌+◌, ◌*◌, ◌%◌, ◌<◌, ◌≤◌, Bool, true, refl, ap, ◌∙◌, arith}
use Rattle.std.proofs.lemmas.Bool.{agree_below, agree_below_at}
use Rattle.lane_board.specs.Lanes.{has_bit}

pub spread_rows : (rows x y : ℕ) → rows < 256 → x ≤ 9 → y < 8 → has_bit (rows * 4740885567116192841985) (8 * x + y) ≡ has_bit rows y
unfolding has_bit
spread_rows rows x y small column low =
    agree_below_at (has_bit (rows * 4740885567116192841985)) (λ k. has_bit rows (k % 8)) 80 (8 * x + y)
    (agree_below_at rows_agree (λ rows. true) 256 rows refl small) (omega arith)
    ∙ ap (has_bit rows) {x = (8 * x + y) % 8} {y = y} (omega arith)
  where
    rows_agree : ℕ → Bool
    rows_agree rows = agree_below (has_bit (rows * 4740885567116192841985)) (λ k. has_bit rows (k % 8)) 80
