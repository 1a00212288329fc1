-- What is left of the tails of a block, by their places.
use Rattle.std.proofs.Common.{ℕ, ◌≡◌, ◌≢◌, ◌+◌, ◌-◌, ◌*◌, ◌/◌, ◌%◌, ◌^◌, ◌<◌, ◌≤◌, false, bit_and, nat_le, nat_lt, ◌&&◌, ◌||◌, ap, inl, inr, arith}
use Rattle.std.proofs.lemmas.Bool.{cases_lt}
use Rattle.std.proofs.lemmas.Bool.Decides.{nat_tests}
use Rattle.lane_board.specs.Lanes.{has_bit}
use Rattle.lane_board.proofs.CallerLemmas.{has_bit-and, has_bit-past}
use Rattle.tails.specs.declared.block.Block.{Block}
use Rattle.tails.specs.declared.takings.Taking.{Taking}
use Rattle.tails.specs.Blocks.{in_block}
use Rattle.tails.specs.Numbers.{place_of}
use Rattle.tails.specs.Takings.{IsTaking, front_of, is_sent}
use Rattle.tails.proofs.BlockLemmas.{in-empty, made}

pub front-key : (key p : ℕ) → p < 2 ^ 32 → (key / 2 ^ 26 * 2 ^ 32 + p) / 64 ≡ key / 2 ^ 26 * 2 ^ 26 + p / 64
front-key key p small = omega arith

pub front-bit : (key p : ℕ) → (key / 2 ^ 26 * 2 ^ 32 + p) % 64 ≡ p % 64
front-bit key p = omega arith

-- words of 64 bits
pub record IsWord (bits : ℕ) : Type 0 where
  pub past : (k : ℕ) → 64 ≤ k → has_bit bits k ≡ false

pub word-fits : (bits : ℕ) → bits < 2 ^ 64 → IsWord bits
word-fits bits fits = record { past = λ k past. has_bit-past bits 64 k fits past }

pub word-both : (a b : ℕ) → IsWord a → IsWord (bit_and a b)
word-both a b word = record { past = λ k past. let none = word.past k past in let both = has_bit-and a b k in grind (arith, nat_tests) }

-- the tails of a block, by their places among the tails of their state
pub in-place : (block : Block) (place p : ℕ) → IsWord block.bits → place ≡ block.key % 2 ^ 26 * 64 → p < 2 ^ 32
    → in_block block (front_of block + p) ≡ (nat_le place p && has_bit block.bits (p - place))
unfolding in_block front_of
in-place block place p word place_is small =
    let key_is = front-key block.key p small in
    let bit_is = front-bit block.key p in
    elim (cases_lt p place) [
      | inl before ↦
          let other : block.key ≢ (block.key / 2 ^ 26 * 2 ^ 32 + p) / 64 = λ same. omega (arith, same, key_is) in
          grind (arith, nat_tests)
      | inr from ↦ elim (cases_lt (p - place) 64) [
        | inl within ↦
            let same : block.key ≡ (block.key / 2 ^ 26 * 2 ^ 32 + p) / 64 = omega (arith, key_is) in
            let bit = ap (has_bit block.bits) {x = (block.key / 2 ^ 26 * 2 ^ 32 + p) % 64} {y = p - place} (omega (arith, bit_is)) in
            grind (arith, nat_tests)
        | inr past ↦
            let other : block.key ≢ (block.key / 2 ^ 26 * 2 ^ 32 + p) / 64 = λ same. omega (arith, same, key_is) in
            let none = word.past (p - place) past in
            grind (arith, nat_tests)
      ]
    ]

-- the tails of a block from a multiple of 64 on
pub in-behind : (base from key bits tail : ℕ) → base % 64 ≡ 0 → IsWord bits → base / 64 + from ≡ key
    → in_block (made key bits) tail ≡ (nat_le (base + from * 64) tail && has_bit bits (tail - (base + from * 64)))
unfolding in_block
in-behind base from key bits tail whole word key_is = elim (cases_lt tail (base + from * 64)) [
  | inl before ↦
      let other : key ≢ tail / 64 = λ same. omega (arith, same, key_is) in
      grind (arith, nat_tests)
  | inr behind ↦ elim (cases_lt (tail - (base + from * 64)) 64) [
    | inl within ↦
        let same : key ≡ tail / 64 = omega (arith, key_is) in
        let bit = ap (has_bit bits) {x = tail % 64} {y = tail - (base + from * 64)} (omega arith) in
        grind (arith, nat_tests)
    | inr past ↦
        let other : key ≢ tail / 64 = λ same. omega (arith, same, key_is) in
        let none = word.past (tail - (base + from * 64)) past in
        grind (arith, nat_tests)
  ]
]

pub whole-block : (taking : Taking) → IsTaking taking → taking.base % 64 ≡ 0
unfolding place_of
whole-block taking taken = let whole = taken.begins in omega arith

-- a run beside a block whose first tail has this place
pub record IsBeside (block : Block) (taking : Taking) (place first count : ℕ) : Type 0 where
  pub word : IsWord block.bits
  pub taken : IsTaking taking
  pub place_is : place ≡ block.key % 2 ^ 26 * 64
  pub first_is : first ≡ taking.first
  pub count_is : count ≡ taking.count

-- what is sent, by the place of a tail in the run
sent-at : (block : Block) (taking : Taking) (place first count tail : ℕ) → IsBeside block taking place first count
    → is_sent block taking tail ≡ (nat_le taking.base tail && (nat_lt (tail - taking.base) count
    && (nat_le place (first + (tail - taking.base)) && has_bit block.bits (first + (tail - taking.base) - place))))
unfolding is_sent
sent-at block taking place first count tail beside =
    let d = tail - taking.base in
    let total = beside.taken.few in
    let count_is = beside.count_is in
    let first_is = beside.first_is in
    elim (cases_lt d count) [
      | inl within ↦
          let there = in-place block place (first + d) beside.word beside.place_is (omega arith) in
          let same = ap (λ n. in_block block (front_of block + (n + d))) first_is in
          grind (arith, nat_tests)
      | inr beyond ↦ grind (arith, nat_tests)
    ]

-- the run begins behind the block's first tail
pub sent-before : (block : Block) (taking : Taking) (place first count down below tail : ℕ) → IsBeside block taking place first count → down < 2 ^ 64 → place < first
    → ((k : ℕ) → has_bit down k ≡ has_bit block.bits (k + (first - place)))
    → ((k : ℕ) → has_bit below k ≡ (nat_lt k 64 && nat_lt k count))
    → (in_block (made (taking.base / 64) (bit_and down below)) tail || in_block (made (taking.base / 64) 0) tail) ≡ is_sent block taking tail
sent-before block taking place first count down below tail beside down_fits before down_is below_is =
    let base = taking.base in
    let d = tail - base in
    let sent = sent-at block taking place first count tail beside in
    let low = in-behind base 0 (base / 64) (bit_and down below) tail (whole-block taking beside.taken) (word-both down below (word-fits down down_fits)) (omega arith) in
    let none = in-empty (base / 64) tail in
    let start = ap (has_bit (bit_and down below)) {x = tail - (base + 0 * 64)} {y = d} (omega arith) in
    let bit = has_bit-and down below d in
    let from = down_is d in
    let few = below_is d in
    let at = ap (has_bit block.bits) {x = d + (first - place)} {y = first + d - place} (omega arith) in
    elim (cases_lt d 64) [
      | inl near ↦ grind (arith, nat_tests)
      | inr far ↦
          let past = beside.word.past (first + d - place) (omega arith) in
          grind (arith, nat_tests)
    ]

-- the run ends before the block
pub sent-none : (block : Block) (taking : Taking) (place first count key tail : ℕ) → IsBeside block taking place first count
    → first ≤ place → count ≤ place - first
    → (in_block (made key 0) tail || in_block (made key 0) tail) ≡ is_sent block taking tail
sent-none block taking place first count key tail beside from past =
    let sent = sent-at block taking place first count tail beside in
    let none = in-empty key tail in
    grind (arith, nat_tests)

-- the run begins at the block's first tail or before it
pub sent-within : (block : Block) (taking : Taking) (place first count below up down tail : ℕ) → IsBeside block taking place first count
    → up < 2 ^ 64 → down < 2 ^ 64 → first ≤ place → place - first < count
    → ((k : ℕ) → has_bit below k ≡ (nat_lt k 64 && nat_lt k (count - (place - first))))
    → ((k : ℕ) → has_bit up k ≡ (nat_lt k 64 && (nat_le ((place - first) % 64) k && has_bit (bit_and block.bits below) (k - (place - first) % 64))))
    → ((k : ℕ) → has_bit down k ≡ has_bit (bit_and block.bits below) (k + (64 - (place - first) % 64)))
    → (in_block (made (taking.base / 64 + (place - first) / 64) up) tail || in_block (made (taking.base / 64 + (place - first) / 64 + 1) down) tail)
    ≡ is_sent block taking tail
sent-within block taking place first count below up down tail beside up_fits down_fits from within below_is up_is down_is =
    let base = taking.base in
    let behind = place - first in
    let whole = whole-block taking beside.taken in
    let sent = sent-at block taking place first count tail beside in
    let low = in-behind base (behind / 64) (base / 64 + behind / 64) up tail whole (word-fits up up_fits) (omega arith) in
    let high = in-behind base (behind / 64 + 1) (base / 64 + behind / 64 + 1) down tail whole (word-fits down down_fits) (omega arith) in
    let low_bit = up_is (tail - (base + behind / 64 * 64)) in
    let high_bit = down_is (tail - (base + (behind / 64 + 1) * 64)) in
    let low_at = ap (has_bit (bit_and block.bits below)) {x = tail - (base + behind / 64 * 64) - behind % 64} {y = tail - base - behind} (omega arith) in
    let at = ap (has_bit block.bits) {x = first + (tail - base) - place} {y = tail - base - behind} (omega arith) in
    let both = has_bit-and block.bits below (tail - base - behind) in
    let few = below_is (tail - base - behind) in
    elim (cases_lt tail (base + behind)) [
      | inl before ↦ grind (arith, nat_tests)
      | inr past ↦ elim (cases_lt tail (base + (behind / 64 + 1) * 64)) [
        | inl first_block ↦ grind (arith, nat_tests)
        | inr next_block ↦
            let high_at = ap (has_bit (bit_and block.bits below)) {x = tail - (base + (behind / 64 + 1) * 64) + (64 - behind % 64)} {y = tail - base - behind} (omega arith) in
            elim (cases_lt (tail - base - behind) 64) [
              | inl near ↦ grind (arith, nat_tests)
              | inr far ↦
                  let none = beside.word.past (tail - base - behind) far in
                  grind (arith, nat_tests)
            ]
      ]
    ]
