-- Sums and differences of small signed numbers do not leave a byte.
use Rattle.std.proofs.Common.{◌≡◌, ℤ, pos, ◌+ℤ◌, ◌-ℤ◌, ◌≤ℤ◌, true, ◌&&◌, T, to_z, of_z, w8, arith, subst, sym, rules}
use Rattle.std.specs.Prelude.{int_le}
use Rattle.std.specs.Int.Signed.{le_z_yes}
use Rattle.std.proofs.lemmas.Int.{ints}
use Rattle.srs.specs.declared.offset.Offset.{Offset}
use Rattle.srs.specs.Cells.{Cell, minus, is_near}
use Rattle.srs.specs.Kick.{is_small}
use Rattle.srs.proofs.BooleanLemmas.{and_first, and_second}

-- both numbers lie between the bounds
pub record IsWithin (low high : ℤ) (a b : ℤ) : Type 0 where
  pub left : low ≤ℤ a
  pub right : a ≤ℤ high
  pub down : low ≤ℤ b
  pub up : b ≤ℤ high

pub int_le-true : (a b : ℤ) → int_le a b ≡ true → a ≤ℤ b
int_le-true a b e = le_z_yes (subst T (sym e) tt)

within : (low high a b : ℤ) → (int_le low a && int_le a high && int_le low b && int_le b high) ≡ true → IsWithin low high a b
within low high a b h = search (rules, and_first, int_le-true, and_second)

pub near_within : (move : Cell) → is_near move ≡ true → IsWithin (minus 2) (pos 2) move.0 move.1
near_within move = within (minus 2) (pos 2) move.0 move.1

pub small_within : (offset : Offset) → is_small offset ≡ true → IsWithin (minus 3) (pos 3) offset.dx offset.dy
small_within offset = within (minus 3) (pos 3) offset.dx offset.dy

pub sum_in_byte : (a b : ℤ) → pos 0 ≤ℤ a → a ≤ℤ pos 31 → minus 2 ≤ℤ b → b ≤ℤ pos 2 → to_z w8 (of_z w8 (to_z w8 (of_z w8 a) +ℤ to_z w8 (of_z w8 b))) ≡ a +ℤ b
sum_in_byte a b g h k l = omega (arith, ints)

pub difference_in_byte : (a b : ℤ) → minus 3 ≤ℤ a → a ≤ℤ pos 3 → minus 3 ≤ℤ b → b ≤ℤ pos 3 → to_z w8 (of_z w8 (to_z w8 (of_z w8 a) -ℤ to_z w8 (of_z w8 b))) ≡ a -ℤ b
difference_in_byte a b g h k l = omega (arith, ints)
