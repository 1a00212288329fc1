-- Which tails a block has.
use Rattle.std.proofs.Common.{ℕ, ◌≡◌, ◌≢◌, ◌*◌, ◌/◌, ◌%◌, ◌^◌, false, ◌&&◌, ◌==◌, ap, sym, ◌∙◌, arith}
use Rattle.std.proofs.lemmas.Bool.Decides.{nat_tests}
use Rattle.lane_board.specs.Lanes.{has_bit}
use Rattle.lane_board.proofs.CallerLemmas.{has_bit-zero}
use Rattle.tails.specs.declared.block.Block.{Block}
use Rattle.tails.specs.Blocks.{in_block}
use Rattle.hands.proofs.CallerLemmas.{has_bit-one}

-- a block with a key and bits
abbrev pub made : ℕ → ℕ → Block
made key bits = record { key = key; bits = bits }

pub not-in : (block : Block) (tail : ℕ) → block.key ≢ tail / 64 → in_block block tail ≡ false
unfolding in_block
not-in block tail other = grind (arith, nat_tests)

pub in-empty : (key tail : ℕ) → in_block (made key 0) tail ≡ false
unfolding in_block
in-empty key tail = ap (λ b. (key == tail / 64) && b) (has_bit-zero (tail % 64)) ∙ grind (arith, nat_tests)

pub in-at : (block : Block) (tail key bit : ℕ) → tail / 64 ≡ key → tail % 64 ≡ bit
    → in_block block tail ≡ ((block.key == key) && has_bit block.bits bit)
unfolding in_block
in-at block tail key bit key_is bit_is = λ i. (block.key == key_is i) && has_bit block.bits (bit_is i)

-- tails with the same key and the same bit are the same
same-tail : (one other : ℕ) → (one == other) ≡ ((one / 64 == other / 64) && (other % 64 == one % 64))
same-tail one other = grind (arith, nat_tests)

-- a block of one tail
pub one-in : (tail other : ℕ) → in_block (made (tail / 64) (1 * 2 ^ (tail % 64) % 2 ^ 64)) other ≡ (tail == other)
unfolding in_block
one-in tail other =
    ap (λ b. (tail / 64 == other / 64) && b) (has_bit-one (tail % 64) (other % 64) (omega arith)) ∙ sym (same-tail tail other)
