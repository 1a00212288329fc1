-- Reading a number digit by digit, as a loop does.
use Rattle.std.proofs.Common.{◌≡◌, ℕ, suc, ◌+◌, ◌-◌, ◌*◌, ◌^◌, ◌<◌, ◌≤◌, List, Result, Ok, Err, sym, ap, ◌∙◌, arith, rules}
use Rattle.std.proofs.Math.Nat.{pow-succ', pow-le-pow_right, mul-le-mul_left, mul-suc}
use Rattle.fumen_digits.specs.declared.fault.FumenFault.{FumenFault}
use Rattle.fumen_digits.specs.Reading.{◌>>=◌, value_at, number_from, number_at}

-- the number of the digits read so far, and of those above them
abbrev pub with_low : ℕ → ℕ → Result ℕ FumenFault → Result ℕ FumenFault
with_low number weight read = read >>= λ high. Ok (number + weight * high)

-- so many digits are read, and what is left completes the number
pub record IsSoFar (ds : List ℕ) (place count i number weight : ℕ) : Type 0 where
  pub weight_is : weight ≡ 64 ^ i
  pub below : number < weight
  pub completes : with_low number weight (number_from ds place (place + i) (count - i)) ≡ number_at ds place count

regroup : (number weight value : ℕ) (read : Result ℕ FumenFault) → with_low number weight (read >>= λ high. Ok (value + 64 * high)) ≡ with_low (number + weight * value) (weight * 64) read
regroup number weight value read = search rules

-- what the next digit adds fits
pub fits : (ds : List ℕ) (place count i number weight value : ℕ) → i < count → count ≤ 5 → value < 64 → IsSoFar ds place count i number weight
    → (weight * 64 < 2 ^ 32) × (number + weight * value < weight * 64)
fits ds place count i number weight value lt most small s =
    search (rules, pow-le-pow_right, pow-succ', mul-le-mul_left, mul-suc)

read_digit : (ds : List ℕ) (place count i value : ℕ) → i < count → value_at ds place (place + i) ≡ Ok value
    → number_from ds place (place + i) (count - i) ≡ (number_from ds place (place + (i + 1)) (count - (i + 1)) >>= λ high. Ok (value + 64 * high))
unfolding number_from
read_digit ds place count i value lt read = search rules

pub goes_on : (ds : List ℕ) (place count i number weight value : ℕ) → i < count → count ≤ 5 → value < 64 → value_at ds place (place + i) ≡ Ok value → IsSoFar ds place count i number weight
    → IsSoFar ds place count (i + 1) (number + weight * value) (weight * 64)
goes_on ds place count i number weight value lt most small read s =
    let one = i + 1 in
    let suc-is : one ≡ suc i = omega arith in
    let more : 64 ^ suc i ≡ 64 * 64 ^ i = pow-succ' 64 i in
    let power : 64 ^ one ≡ 64 * 64 ^ i = ap (λ (k : ℕ). 64 ^ k) suc-is ∙ more in
    let rest = number_from ds place (place + one) (count - one) in
    record {
      weight_is = omega (arith, power, s.weight_is);
      below = (fits ds place count i number weight value lt most small s).1;
      completes = sym (regroup number weight value rest) ∙ (ap (λ (r : Result ℕ FumenFault). with_low number weight r) (sym (read_digit ds place count i value lt read)) ∙ s.completes);
    }

pub stops : (ds : List ℕ) (place count i number weight : ℕ) (f : FumenFault) → i < count → value_at ds place (place + i) ≡ Err f → IsSoFar ds place count i number weight → number_at ds place count ≡ Err f
unfolding number_from
stops ds place count i number weight f lt read s = search rules

pub is_read : (ds : List ℕ) (place count i number weight : ℕ) → count ≤ i → IsSoFar ds place count i number weight → number_at ds place count ≡ Ok number
unfolding number_from
is_read ds place count i number weight le s = search rules
