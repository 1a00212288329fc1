-- The digits by ranges of values and of bytes, and that a digit and its value are each other's inverse.
use Rattle.std.proofs.Common.{◌≡◌, ℕ, ◌+◌, ◌-◌, ◌<◌, true, cond, eqb, ltb, leb, ◌&&◌, Option, Some, None, refl}
use Rattle.std.proofs.lemmas.Bool.{agree_below_at, eqb-true}
use Rattle.std.proofs.lemmas.List.Quantifiers.{position-Some}
use Rattle.fumen_digits.specs.Digit.{alphabet, digit, digit_value}
use Rattle.fumen_digits.proofs.OptionTest.{same_option, same_option-true}

abbrev pub ranged_digit : ℕ → ℕ
ranged_digit v = cond (ltb v 26) (65 + v) (cond (ltb v 52) (97 + (v - 26)) (cond (ltb v 62) (48 + (v - 52)) (cond (eqb v 62) 43 47)))

pub digit_by_range : (v : ℕ) → v < 64 → digit v ≡ ranged_digit v
unfolding digit
digit_by_range v lt = eqb-true (digit v) (ranged_digit v) (agree_below_at (λ k. eqb (digit k) (ranged_digit k)) (λ _. true) 64 v refl lt)

abbrev pub ranged_value : ℕ → Option ℕ
ranged_value b =
    cond (leb 65 b && leb b 90) (Some (b - 65))
    (cond (leb 97 b && leb b 122) (Some (b - 97 + 26))
    (cond (leb 48 b && leb b 57) (Some (b - 48 + 52)) (cond (eqb b 43) (Some 62) (cond (eqb b 47) (Some 63) None))))

pub value_by_range : (b : ℕ) → b < 256 → digit_value b ≡ ranged_value b
unfolding digit_value
value_by_range b lt = same_option-true (digit_value b) (ranged_value b) (agree_below_at (λ k. same_option (digit_value k) (ranged_value k)) (λ _. true) 256 b refl lt)

-- the value of the digit of a value
pub value_of_digit : (v : ℕ) → v < 64 → digit_value (digit v) ≡ Some v
unfolding digit digit_value
value_of_digit v lt = same_option-true (digit_value (digit v)) (Some v) (agree_below_at (λ k. same_option (digit_value (digit k)) (Some k)) (λ _. true) 64 v refl lt)

-- the digit of the value of a digit
pub digit_of_value : (b v : ℕ) → digit_value b ≡ Some v → (v < 64) × (digit v ≡ b)
unfolding digit digit_value
digit_of_value b v e =
    let p = position-Some (λ d. eqb d b) alphabet v 0 e in
    (p.0, eqb-true (digit v) b p.1)
