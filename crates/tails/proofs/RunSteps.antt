-- A set of tails side by side, one block on.
use Rattle.std.proofs.Common.{ℕ, ◌≡◌, ◌+◌, ◌-◌, ◌*◌, ◌/◌, ◌%◌, Bool, nat_le, nat_lt, ◌&&◌, ◌||◌, ◌==◌, ◌∙◌, arith}
use Rattle.std.proofs.lemmas.Bool.Decides.{nat_tests}
use Rattle.lane_board.specs.Lanes.{has_bit}
use Rattle.tails.specs.declared.tail_set.TailSet.{TailSet}
use Rattle.tails.specs.Blocks.{in_block}
use Rattle.tails.specs.TailSets.{has}
use Rattle.tails.proofs.BlockLemmas.{made}

-- whether a tail is one of so many side by side
abbrev pub in_front : ℕ → ℕ → ℕ → Bool
in_front first count tail = nat_le first tail && nat_lt (tail - first) count

-- a set has those of the tails that are in the first blocks
pub record HasFront (tails : TailSet) (first count blocks : ℕ) : Type 0 where
  pub members : (tail : ℕ) → has tails tail ≡ (in_front first count tail && nat_lt (tail - first) (blocks * 64))

one_more : (first count i tail : ℕ) → first % 64 ≡ 0
    → ((in_front first count tail && nat_lt (tail - first) (i * 64))
    || ((first / 64 + i == tail / 64) && (nat_lt (tail % 64) 64 && nat_lt (tail % 64) (count - i * 64))))
    ≡ (in_front first count tail && nat_lt (tail - first) ((i + 1) * 64))
one_more first count i tail begins = grind (arith, nat_tests)

pub run-more : (old new : TailSet) (first count i bits : ℕ) → first % 64 ≡ 0 → HasFront old first count i
    → ((k : ℕ) → has_bit bits k ≡ (nat_lt k 64 && nat_lt k (count - i * 64)))
    → ((tail : ℕ) → has new tail ≡ (has old tail || in_block (made (first / 64 + i) bits) tail)) → HasFront new first count (i + 1)
unfolding in_block
run-more old new first count i bits begins state bits_are added = record {
  members = λ tail.
      added tail
      ∙ (λ x. state.members tail x || ((first / 64 + i == tail / 64) && bits_are (tail % 64) x))
      ∙ one_more first count i tail begins;
}
