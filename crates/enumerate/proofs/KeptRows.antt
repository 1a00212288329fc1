-- A placement that removes no row only takes its cells from the empty ones.
use Rattle.std.proofs.Common.{◌≡◌, ℕ, zero, suc, ◌+◌, ◌-◌, ◌<◌, ◌≤◌, Bool, true, false, ◌&&◌, nat_lt, subst, arith, rules}
use Rattle.std.proofs.lemmas.Bool.{cases_Bool, cases_lt, le-ltb}
use Rattle.std.proofs.Math.Path.{fun_ext}
use Rattle.lane_board.specs.Field.{Field, difference, rows_below}
use Rattle.lane_board.specs.FullRows.{is_full, full_below, without_full_rows}
use Rattle.lane_board.proofs.CallerLemmas.{full_below-full, full_below-other, lowered_from, lowered_to, same_from_both}
use Rattle.srs.specs.declared.placement.Placement.{Placement}
use Rattle.well.specs.Lock.{locked, rows_removed, together}

module _ (G : Field) (none : full_below G 23 ≡ 0) where
  rises : (n : ℕ) → full_below G n ≤ full_below G (suc n)
  rises n = search (rules, cases_Bool, full_below-full, full_below-other)

  none-below : (k n : ℕ) → n + k ≡ 23 → full_below G n ≡ 0
  none-below zero n e = search rules
  none-below (suc k) n e = search (rules, (none-below k (suc n)), (rises n))

  not-full : (n : ℕ) → n < 23 → is_full G n ≡ false
  not-full n below = search (rules, (cases_Bool (is_full G n)), (full_below-full G n), (none-below (23 - suc n) (suc n)))

  all-stay : (x y : ℕ) → y < 23 → without_full_rows G 23 x y ≡ G x y
  all-stay x y below = same_from_both (without_full_rows G 23 x y) (G x y)
      (λ left.
      let was = lowered_from G 23 x y left in
      let row : was.row ≡ y = omega (arith, was.lowered, none-below (23 - was.row) was.row (omega (arith, was.below))) in
      subst (λ r. G x r ≡ true) row was.filled)
      (λ has. lowered_to G 23 x y (record {
        row = y;
        below = below;
        filled = has;
        stays = not-full y below;
        lowered = omega (arith, none-below (23 - y) y (omega (arith, below)));
      }))

dropped : (a b p q : Bool) → b ≡ false → ((a && b) && p) ≡ ((a && b) && q)
dropped a b p q e = search rules

-- the empty cells below a height, before full rows go and after, where none goes
pub kept_empties : (F : Field) (q : Placement) (rows : ℕ) → rows ≤ 8 → rows_removed F q ≡ 0 →
    difference (rows_below rows) (together F q) ≡ difference (rows_below rows) (locked F q)
unfolding difference rows_below locked rows_removed
kept_empties F q rows low none = search (rules, fun_ext, cases_lt, nat_lt, (all-stay (together F q) none), dropped, le-ltb)
