-- The bits of a set whose columns are counted from the right, and the tilings of such a set.
use Rattle.std.proofs.Common.{◌≡◌, ◌↔◌, ℕ, ◌+◌, ◌-◌, ◌*◌, ◌%◌, ◌^◌, ◌<◌, ◌≤◌, false, ◌||◌, bit_or, sym, ap, subst, ◌∙◌, inl, inr, arith, rules}
use Rattle.std.proofs.Math.Path.{fun_ext}
use Rattle.std.proofs.lemmas.Bool.{and_left, cases_lt, le-ltb, lt-ltb}
use Rattle.std.proofs.lemmas.Nat.{or_lt, pow-add, pow_below, pow_pos}
use Rattle.std.proofs.Math.Bool.{or-false}
use Rattle.lane_board.specs.Field.{Field, rows_below}
use Rattle.lane_board.specs.Lanes.{has_bit}
use Rattle.lane_board.proofs.CallerLemmas.{has_bit-or, has_bit-past, has_bit-shifted_high, has_bit-shifted_low}
use Rattle.srs.specs.Cells.{Cell}
use Rattle.prune.specs.Tiling.{Supply, Tiling, is_empty_below}
use Rattle.prune.specs.Mirror.{mirrored, mirrored_supply}
use Rattle.prune.proofs.CallerLemmas.{kind_again, same_tiling, tiling_mirrored}
use Rattle.empty_cells.specs.declared.empties.Empties.{Empties}
use Rattle.empty_cells.specs.Empties.{all_but, cells_by_column, empty_cells}

-- the columns below x, the last of them lowest
pub record IsTurned (E : Field) (cells x : ℕ) : Type 0 where
  pub small : cells < 2 ^ (8 * x)
  pub bits : (a b : ℕ) → a < x → b < 8 → has_bit cells (8 * a + b) ≡ E (x - 1 - a) b

pub turned-start : (E : Field) → IsTurned E 0 0
turned-start E = record { small = omega arith; bits = λ a b before low. absurd (omega arith) }

pub turned-next : (E : Field) (cells x rows : ℕ) → x < 10 → rows < 256 → ((b : ℕ) → b < 8 → has_bit rows b ≡ E x b) → IsTurned E cells x → IsTurned E (bit_or (cells * 2 ^ 8 % 2 ^ 128) rows) (x + 1)
turned-next E cells x rows near small here t = record {
  small = subst (λ n. bit_or n rows < 2 ^ (8 * (x + 1))) (sym whole) (or_lt (8 * (x + 1)) (cells * 2 ^ 8) rows moved few);
  bits = λ a b before low.
      ap (λ n. has_bit (bit_or n rows) (8 * a + b)) whole ∙ has_bit-or (cells * 2 ^ 8) rows (8 * a + b) ∙ elim (cases_lt a 1) [
        | inl first ↦
            let at : 8 * a + b ≡ b = omega arith in
            ap (λ k. has_bit (cells * 2 ^ 8) k || has_bit rows k) at ∙ ap (λ p. p || has_bit rows b) (has_bit-shifted_low cells 8 b low) ∙ here b low
            ∙ ap (λ k. E k b) {y = x + 1 - 1 - a} (omega arith)
        | inr later ↦
            ap (λ p. has_bit (cells * 2 ^ 8) (8 * a + b) || p) (has_bit-past rows 8 (8 * a + b) small (omega arith)) ∙ or-false _
            ∙ has_bit-shifted_high cells 8 (8 * a + b) (omega arith)
            ∙ ap (has_bit cells) {y = 8 * (a - 1) + b} (omega arith) ∙ t.bits (a - 1) b (omega arith) low
            ∙ ap (λ k. E k b) {x = x - 1 - (a - 1)} {y = x + 1 - 1 - a} (omega arith)
      ];
}
  where
    shifted : 2 ^ (8 * (x + 1)) ≡ 2 ^ (8 * x) * 2 ^ 8
    shifted = ap (λ k. 2 ^ k) {x = 8 * (x + 1)} {y = 8 * x + 8} (omega arith) ∙ pow-add 2 (8 * x) 8

    moved : cells * 2 ^ 8 < 2 ^ (8 * (x + 1))
    moved = omega (arith, shifted, t.small)

    few : rows < 2 ^ (8 * (x + 1))
    few = omega (arith, small, shifted, pow_pos (8 * x))

    whole : cells * 2 ^ 8 % 2 ^ 128 ≡ cells * 2 ^ 8
    whole = omega (arith, moved, pow_below (8 * (x + 1)) 128 (omega arith))

pub turned-all : (E : Field) (e : Empties) (x : ℕ) → x ≡ 10 → IsTurned E e.cells x → ((a b : ℕ) → 8 ≤ b → E a b ≡ false) → (a b : ℕ) → a ≤ 9 → empty_cells e a b ≡ E (9 - a) b
unfolding empty_cells cells_by_column
turned-all E e x last t none a b near = search (rules, cases_lt, lt-ltb, and_left, le-ltb)

pub none_above : (e : Empties) (a b : ℕ) → 8 ≤ b → empty_cells e a b ≡ false
unfolding empty_cells cells_by_column
none_above e a b high = and_left _ _ (le-ltb b 8 high)

pub turned-small : (E : Field) (cells x : ℕ) → x ≡ 10 → IsTurned E cells x → cells < 2 ^ 80
turned-small E cells x last t = omega (arith, t.small, ap (λ k. 2 ^ (8 * k)) last)

-- the sets in the mirror
module _ (E G : Field) (turned : (x y : ℕ) → x ≤ 9 → G x y ≡ E (9 - x) y) where
  shown : (cell : Cell) → is_empty_below (mirrored (all_but E)) 8 cell ≡ is_empty_below (all_but G) 8 cell
  unfolding is_empty_below mirrored all_but rows_below
  shown cell = search (rules, cases_lt, and_left, le-ltb)

  to_mirror : (supply : Supply) → Tiling (all_but E) 8 supply → Tiling (all_but G) 8 (mirrored_supply supply)
  to_mirror supply t = same_tiling (mirrored (all_but E)) (all_but G) 8 8 (mirrored_supply supply) shown (tiling_mirrored (all_but E) 8 supply t)

  turned_back : (x y : ℕ) → x ≤ 9 → E x y ≡ G (9 - x) y
  turned_back x y near = sym (turned (9 - x) y (omega arith) ∙ ap (λ k. E k y) {x = 9 - (9 - x)} {y = x} (omega arith))

supply_again : (supply : Supply) → mirrored_supply (mirrored_supply supply) ≡ supply
supply_again supply = fun_ext (λ piece. ap supply (kind_again piece))

-- so both have a tiling, or none has
pub both_tiled : (E G : Field) → ((x y : ℕ) → x ≤ 9 → G x y ≡ E (9 - x) y) → (supply : Supply) → Tiling (all_but G) 8 (mirrored_supply supply) ↔ Tiling (all_but E) 8 supply
both_tiled E G turned supply = (
  λ t. subst (λ s. Tiling (all_but E) 8 s) (supply_again supply) (to_mirror G E (turned_back E G turned) (mirrored_supply supply) t),
  to_mirror E G turned supply,
)
