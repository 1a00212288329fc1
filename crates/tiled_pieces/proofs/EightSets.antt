-- Eight numbers that are 0 together.
use Rattle.std.proofs.Common.{◌≡◌, ℕ, zero, suc, ◌+◌, ◌-◌, ◌<◌, ◌≤◌, bit_or, List, slice_index, ap, ◌∙◌, arith}
use Rattle.std.proofs.lemmas.Nat.{le_or_l, le_or_r}

left_zero : (a b : ℕ) → bit_or a b ≡ 0 → a ≡ 0
left_zero a b none = omega (arith, le_or_l a b, none)

right_zero : (a b : ℕ) → bit_or a b ≡ 0 → b ≡ 0
right_zero a b none = omega (arith, le_or_r a b, none)

four : (a b c d : ℕ) → bit_or (bit_or (bit_or a b) c) d ≡ 0 → (a ≡ 0) × (b ≡ 0) × (c ≡ 0) × (d ≡ 0)
four a b c d none =
    let three = left_zero (bit_or (bit_or a b) c) d none in
    let two = left_zero (bit_or a b) c three in
    (left_zero a b two, right_zero a b two, right_zero (bit_or a b) c three, right_zero (bit_or (bit_or a b) c) d none)

module _ (t : List ℕ) (s : ℕ) where
  abbrev low : ℕ
  low = bit_or (bit_or (bit_or (slice_index t s) (slice_index t (s + 1))) (slice_index t (s + 2))) (slice_index t (s + 3))

  abbrev high : ℕ
  high = bit_or (bit_or (bit_or (slice_index t (s + 4)) (slice_index t (s + 5))) (slice_index t (s + 6))) (slice_index t (s + 7))

  lower : bit_or low high ≡ 0 → (slice_index t s ≡ 0) × (slice_index t (s + 1) ≡ 0) × (slice_index t (s + 2) ≡ 0) × (slice_index t (s + 3) ≡ 0)
  lower none = four (slice_index t s) (slice_index t (s + 1)) (slice_index t (s + 2)) (slice_index t (s + 3)) (left_zero low high none)

  upper : bit_or low high ≡ 0 → (slice_index t (s + 4) ≡ 0) × (slice_index t (s + 5) ≡ 0) × (slice_index t (s + 6) ≡ 0) × (slice_index t (s + 7) ≡ 0)
  upper none = four (slice_index t (s + 4)) (slice_index t (s + 5)) (slice_index t (s + 6)) (slice_index t (s + 7)) (right_zero low high none)

  each : bit_or low high ≡ 0 → (d : ℕ) → d < 8 → slice_index t (s + d) ≡ 0
  each none zero near = ap (slice_index t) {x = s + 0} {y = s} (omega arith) ∙ (lower none).0
  each none (suc zero) near = (lower none).1
  each none (suc (suc zero)) near = (lower none).2
  each none (suc (suc (suc zero))) near = (lower none).3
  each none (suc (suc (suc (suc zero)))) near = (upper none).0
  each none (suc (suc (suc (suc (suc zero))))) near = (upper none).1
  each none (suc (suc (suc (suc (suc (suc zero)))))) near = (upper none).2
  each none (suc (suc (suc (suc (suc (suc (suc zero))))))) near = (upper none).3
  each none (suc (suc (suc (suc (suc (suc (suc (suc d)))))))) near = absurd (omega (arith, near))

  pub none_of_eight : bit_or low high ≡ 0 → (k : ℕ) → s ≤ k → k < s + 8 → slice_index t k ≡ 0
  none_of_eight none k from near = ap (slice_index t) {x = k} {y = s + (k - s)} (omega (arith, from)) ∙ each none (k - s) (omega (arith, from, near))
