-- Which tails side by side have a rest in a set.
use Rattle.std.proofs.Common.{ℕ, ◌≡◌, ◌+◌, ◌-◌, ◌*◌, ◌/◌, ◌%◌, ◌<◌, ◌≤◌, Bool, bit_and, nat_le, nat_lt, ◌&&◌, ◌||◌, sym, ap, ◌∙◌, inl, inr, arith}
use Rattle.std.proofs.lemmas.Bool.{cases_lt}
use Rattle.std.proofs.lemmas.Bool.Decides.{nat_tests}
use Rattle.lane_board.specs.Lanes.{has_bit}
use Rattle.lane_board.proofs.CallerLemmas.{has_bit-and, has_bit-zero}
use Rattle.tails.specs.declared.tail_set.TailSet.{TailSet}
use Rattle.tails.specs.declared.takings.Taking.{Taking}
use Rattle.tails.specs.Blocks.{have_parts}
use Rattle.tails.specs.Takings.{IsTaking, runs_to}
use Rattle.tails.specs.TailSets.{has}
use Rattle.tails.proofs.SentSteps.{IsWord, whole-block}

-- the bits of the block with a key
pub record AreAt (tails : TailSet) (key bits : ℕ) : Type 0 where
  pub word : IsWord bits
  pub bits_are : (bit : ℕ) → has_bit bits bit ≡ have_parts tails.blocks.items key bit

-- a tail whose block is known
has-near : (tails : TailSet) (base from key bits d : ℕ) → AreAt tails key bits → base % 64 ≡ 0 → base / 64 + from ≡ key → from * 64 ≤ d → d < from * 64 + 64
    → has tails (base + d) ≡ has_bit bits (d - from * 64)
unfolding has
has-near tails base from key bits d at whole key_is behind near =
    let key_same : (base + d) / 64 ≡ key = omega (arith, key_is) in
    let bit_same : (base + d) % 64 ≡ d - from * 64 = omega arith in
    (λ i. have_parts tails.blocks.items (key_same i) (bit_same i)) ∙ sym (at.bits_are (d - from * 64))

-- a run whose first place and count are known
pub record IsRun (taking : Taking) (first count : ℕ) : Type 0 where
  pub taken : IsTaking taking
  pub first_is : first ≡ taking.first
  pub count_is : count ≡ taking.count

module _ (tails : TailSet) (taking : Taking) (place first count : ℕ) (run : IsRun taking first count) where
  -- what a window shows at an index
  abbrev shown : ℕ → Bool
  shown k = runs_to (has tails) (place + k) taking

  shown-at : (k : ℕ) → shown k
      ≡ (nat_le first (place + k) && (nat_lt (place + k - first) count && has tails (taking.base + (place + k - first))))
  unfolding runs_to
  shown-at k =
      λ i. nat_le (sym run.first_is i) (place + k) && (nat_lt (place + k - sym run.first_is i) (sym run.count_is i) && has tails (taking.base + (place + k - sym run.first_is i)))

  pub window-far : (k : ℕ) → place < first → 63 < first - place → has_bit 0 k ≡ (nat_lt k 64 && shown k)
  window-far k before far =
      let none = has_bit-zero k in
      let is = shown-at k in
      grind (arith, nat_tests)

  pub window-past : (k : ℕ) → first ≤ place → count ≤ place - first → has_bit 0 k ≡ (nat_lt k 64 && shown k)
  window-past k from past =
      let none = has_bit-zero k in
      let is = shown-at k in
      grind (arith, nat_tests)

  -- the run begins within the window
  pub window-before : (bits below up : ℕ) → AreAt tails (taking.base / 64) bits → place < first
      → ((k : ℕ) → has_bit below k ≡ (nat_lt k 64 && nat_lt k count))
      → ((k : ℕ) → has_bit up k ≡ (nat_lt k 64 && (nat_le (first - place) k && has_bit (bit_and bits below) (k - (first - place)))))
      → (k : ℕ) → has_bit up k ≡ (nat_lt k 64 && shown k)
  window-before bits below up at before below_is up_is k =
      let is = shown-at k in
      let up_bit = up_is k in
      let d = k - (first - place) in
      let both = has_bit-and bits below d in
      let few = below_is d in
      elim (cases_lt k 64) [
        | inl near ↦ elim (cases_lt k (first - place)) [
          | inl not_yet ↦ grind (arith, nat_tests)
          | inr within ↦
              let there = has-near tails taking.base 0 (taking.base / 64) bits d at (whole-block taking run.taken) (omega arith) (omega arith) (omega arith) in
              let same = ap (λ n. has tails (taking.base + n)) {x = place + k - first} {y = d} (omega arith) in
              let bit = ap (has_bit bits) {x = d - 0 * 64} {y = d} (omega arith) in
              grind (arith, nat_tests)
        ]
        | inr far ↦ grind (arith, nat_tests)
      ]

  -- the run begins before it: the rests stand in one block or two
  pub window-one : (bits low below : ℕ) → AreAt tails (taking.base / 64 + (place - first) / 64) bits → first ≤ place → (place - first) % 64 ≡ 0
      → ((k : ℕ) → has_bit low k ≡ has_bit bits (k + (place - first) % 64))
      → ((k : ℕ) → has_bit below k ≡ (nat_lt k 64 && nat_lt k (count - (place - first))))
      → (k : ℕ) → has_bit (bit_and low below) k ≡ (nat_lt k 64 && shown k)
  window-one bits low below at from even low_is below_is k =
      let behind = place - first in
      let is = shown-at k in
      let both = has_bit-and low below k in
      let low_bit = low_is k in
      let few = below_is k in
      elim (cases_lt k 64) [
        | inl near ↦
            let there = has-near tails taking.base (behind / 64) (taking.base / 64 + behind / 64) bits (behind + k) at (whole-block taking run.taken) (omega arith) (omega arith) (omega arith) in
            let same = ap (λ n. has tails (taking.base + n)) {x = place + k - first} {y = behind + k} (omega arith) in
            let bit = ap (has_bit bits) {x = behind + k - behind / 64 * 64} {y = k + behind % 64} (omega arith) in
            grind (arith, nat_tests)
        | inr far ↦ grind (arith, nat_tests)
      ]

  pub window-two : (bits low more high found below : ℕ) → AreAt tails (taking.base / 64 + (place - first) / 64) bits
      → AreAt tails (taking.base / 64 + (place - first) / 64 + 1) more → first ≤ place → 0 < (place - first) % 64
      → ((k : ℕ) → has_bit low k ≡ has_bit bits (k + (place - first) % 64))
      → ((k : ℕ) → has_bit high k ≡ (nat_lt k 64 && (nat_le (64 - (place - first) % 64) k && has_bit more (k - (64 - (place - first) % 64)))))
      → ((k : ℕ) → has_bit found k ≡ (has_bit low k || has_bit high k))
      → ((k : ℕ) → has_bit below k ≡ (nat_lt k 64 && nat_lt k (count - (place - first))))
      → (k : ℕ) → has_bit (bit_and found below) k ≡ (nat_lt k 64 && shown k)
  window-two bits low more high found below at next from uneven low_is high_is found_is below_is k =
      let behind = place - first in
      let is = shown-at k in
      let both = has_bit-and found below k in
      let either = found_is k in
      let low_bit = low_is k in
      let high_bit = high_is k in
      let few = below_is k in
      let same = ap (λ n. has tails (taking.base + n)) {x = place + k - first} {y = behind + k} (omega arith) in
      elim (cases_lt k 64) [
        | inl near ↦ elim (cases_lt (k + behind % 64) 64) [
          | inl first_block ↦
              let there = has-near tails taking.base (behind / 64) (taking.base / 64 + behind / 64) bits (behind + k) at (whole-block taking run.taken) (omega arith) (omega arith) (omega arith) in
              let bit = ap (has_bit bits) {x = behind + k - behind / 64 * 64} {y = k + behind % 64} (omega arith) in
              grind (arith, nat_tests)
          | inr next_block ↦
              let there = has-near tails taking.base (behind / 64 + 1) (taking.base / 64 + behind / 64 + 1) more (behind + k) next (whole-block taking run.taken) (omega arith) (omega arith) (omega arith) in
              let bit = ap (has_bit more) {x = behind + k - (behind / 64 + 1) * 64} {y = k - (64 - behind % 64)} (omega arith) in
              let none = at.word.past (k + behind % 64) next_block in
              grind (arith, nat_tests)
        ]
        | inr far ↦ grind (arith, nat_tests)
      ]
