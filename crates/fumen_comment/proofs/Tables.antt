-- Hexadecimal digits and the characters that stay, by ranges.
use Rattle.std.proofs.Common.{◌≡◌, ℕ, ◌+◌, ◌-◌, ◌<◌, Bool, true, cond, eqb, ltb, leb, ◌&&◌, ◌||◌, Option, Some, None, refl}
use Rattle.std.proofs.lemmas.Bool.{agree_below_at, eqb-true}
use Rattle.fumen_comment.specs.Escape.{stays, hex_digit}
use Rattle.fumen_comment.specs.Unescape.{hex_value}
use Rattle.fumen_digits.proofs.CallerLemmas.{same_option, same_option-true}

abbrev pub ranged_hex_digit : ℕ → ℕ
ranged_hex_digit v = cond (ltb v 10) (48 + v) (65 + (v - 10))

pub hex_digit_by_range : (v : ℕ) → v < 16 → hex_digit v ≡ ranged_hex_digit v
unfolding hex_digit
hex_digit_by_range v lt = eqb-true (hex_digit v) (ranged_hex_digit v) (agree_below_at (λ k. eqb (hex_digit k) (ranged_hex_digit k)) (λ _. true) 16 v refl lt)

abbrev pub ranged_hex_value : ℕ → Option ℕ
ranged_hex_value c =
    cond (leb 48 c && leb c 57) (Some (c - 48))
    (cond (leb 65 c && leb c 70) (Some (c - 65 + 10)) (cond (leb 97 c && leb c 102) (Some (c - 97 + 10)) None))

pub hex_value_by_range : (c : ℕ) → c < 256 → hex_value c ≡ ranged_hex_value c
unfolding hex_value
hex_value_by_range c lt = same_option-true (hex_value c) (ranged_hex_value c) (agree_below_at (λ k. same_option (hex_value k) (ranged_hex_value k)) (λ _. true) 256 c refl lt)

pub hex_value_of_digit : (v : ℕ) → v < 16 → hex_value (hex_digit v) ≡ Some v
unfolding hex_digit hex_value
hex_value_of_digit v lt = same_option-true (hex_value (hex_digit v)) (Some v) (agree_below_at (λ k. same_option (hex_value (hex_digit k)) (Some k)) (λ _. true) 16 v refl lt)

abbrev pub ranged_stays : ℕ → Bool
ranged_stays b =
    (leb 65 b && leb b 90) || (leb 97 b && leb b 122) || (leb 48 b && leb b 57)
    || eqb b 64 || eqb b 42 || eqb b 95 || eqb b 43 || eqb b 45 || eqb b 46 || eqb b 47

pub stays_by_range : (b : ℕ) → b < 256 → stays b ≡ ranged_stays b
unfolding stays
stays_by_range b lt = agree_below_at stays ranged_stays 256 b refl lt
