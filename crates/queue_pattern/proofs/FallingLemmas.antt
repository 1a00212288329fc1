-- Products of falling factors.
use Rattle.std.proofs.Common.{◌≡◌, ℕ, zero, suc, ◌+◌, ◌-◌, ◌*◌, ◌^◌, ◌<◌, ◌≤◌, ap, sym, ◌∙◌, arith, lit<, add-one, rules}
use Rattle.std.proofs.Math.Nat.{mul-le-mul, mul_assoc, pow-suc, mul-one, one-mul, pow-le-pow_right}
use Rattle.queue_pattern.specs.Queues.{falling_factor}

pub falling_factor-more : (m n k : ℕ) → n ≡ suc k → falling_factor m n ≡ m * falling_factor (m - 1) k
unfolding falling_factor
falling_factor-more m n k is = search rules

-- one more factor is taken
pub product_step : (product pieces chosen taken whole : ℕ) → taken < chosen
    → product * falling_factor (pieces - taken) (chosen - taken) ≡ whole
    → (product * (pieces - taken)) * falling_factor (pieces - (taken + 1)) (chosen - (taken + 1)) ≡ whole
product_step product pieces chosen taken whole within is =
    mul_assoc product (pieces - taken) (falling_factor (pieces - (taken + 1)) (chosen - (taken + 1)))
    ∙ ap (λ f. product * f) (ap (λ m. (pieces - taken) * falling_factor m (chosen - (taken + 1))) (omega arith) ∙ sym (falling_factor-more (pieces - taken) (chosen - taken) (chosen - (taken + 1)) (omega arith)))
    ∙ is

pub product_bound : (product factor taken : ℕ) → product ≤ 7 ^ taken → factor ≤ 7 → product * factor ≤ 7 ^ (taken + 1)
product_bound product factor taken small few = rw (add-one, pow-suc) (mul-le-mul small few)

-- at most seven factors of at most seven
pub power_bound : (n : ℕ) → n ≤ 7 → 7 ^ n ≤ 823543
power_bound n few = pow-le-pow_right (lit< tt) few

-- what can be chosen can be chosen in some way
pub falling_factor-some : (n m : ℕ) → n ≤ m → 1 ≤ falling_factor m n
unfolding falling_factor
falling_factor-some zero m within = omega arith
falling_factor-some (suc n) m within = let rest = falling_factor-some n (m - 1) (omega arith) in let first : 1 ≤ m = omega arith in mul-le-mul first rest

pub all_taken : (product m n whole : ℕ) → n ≡ 0 → product * falling_factor m n ≡ whole → product ≡ whole
unfolding falling_factor
all_taken product m n whole none is = search (rules, mul-one)

-- some factors are taken, then the others
pub falling_factor-add : (k j n m : ℕ) → n ≡ k + j → falling_factor m n ≡ falling_factor m k * falling_factor (m - k) j
unfolding falling_factor
falling_factor-add zero j n m is =
    ap (falling_factor m) (omega (arith, is)) ∙ ap (λ p. falling_factor p j) (omega arith) ∙ sym (one-mul (falling_factor (m - 0) j))
falling_factor-add (suc k) j n m is =
    falling_factor-more m n (k + j) (omega (arith, is))
    ∙ ap (λ f. m * f) (falling_factor-add k j (k + j) (m - 1) (omega arith))
    ∙ sym (mul_assoc m (falling_factor (m - 1) k) (falling_factor (m - 1 - k) j))
    ∙ ap (λ p. m * falling_factor (m - 1) k * falling_factor p j) (omega arith)
