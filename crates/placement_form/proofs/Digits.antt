-- Columns and rows as digits.
use Rattle.std.proofs.Common.{◌≡◌, ℕ, ◌+◌, ◌-◌, ◌*◌, ◌/◌, ◌%◌, ◌<◌, ◌≤◌, ◌&&◌, true, nat_lt, nat_le, leb-true, ltb-true, le-leb, lt-ltb, List, [], ◌∷◌, Some, refl, ap, sym, subst, ◌∙◌, arith, inl, inr}
use Rattle.std.specs.Prelude.{decimal, option_and_then}
use Rattle.std.specs.Fmt.{digits}
use Rattle.std.specs.Str.{bytes_eq}
use Rattle.std.proofs.lemmas.Slice.Eq.{bytes_eq-Decides}
use Rattle.std.proofs.lemmas.Bool.{cases_lt, and_parts, agree_below_at}
use Rattle.std.proofs.lemmas.Fmt.{decimal_digit}
use Rattle.std.proofs.lemmas.Option.{cond_some, none-some, option_and_then_some}
use Rattle.placement_form.specs.Reading.{digit_in, two_digit_row, row_in}

-- a row from 10 on has two digits
pub two_digits : (y : ℕ) → 10 ≤ y → y ≤ 22 → decimal y ≡ (48 + y / 10) ∷ (48 + y % 10) ∷ []
unfolding digits
two_digits y low high =
    let e : 10 + (y - 10) ≡ y = omega arith in
    subst (λ n. decimal n ≡ (48 + n / 10) ∷ (48 + n % 10) ∷ []) e
    ((bytes_eq-Decides _ _).0 (agree_below_at (λ k. bytes_eq (decimal (10 + k)) ((48 + (10 + k) / 10) ∷ (48 + (10 + k) % 10) ∷ [])) (λ k. true) 13 (y - 10) refl (omega arith)))

-- a byte is the digit of this value
pub record IsDigit (byte value : ℕ) : Type 0 where
  pub small : value ≤ 9
  pub is : 48 + value ≡ byte

pub digit_read : (value : ℕ) → value ≤ 9 → digit_in (48 + value) ≡ Some value
digit_read value small =
    let e : 48 + value - 48 ≡ value = omega arith in
    rw (le-leb 48 (48 + value) (omega arith), le-leb (48 + value) 57 (omega arith), e) refl

pub digit_only : (byte value : ℕ) → digit_in byte ≡ Some value → IsDigit byte value
digit_only byte value read =
    let found = cond_some (nat_le 48 byte && nat_le byte 57) (byte - 48) value read in
    let within = and_parts (nat_le 48 byte) (nat_le byte 57) found.0 in
    let low = leb-true 48 byte within.0 in
    let high = leb-true byte 57 within.1 in
    let same = found.1 in
    record { small = omega arith; is = omega arith }

-- two digits make a row
pub record IsRowOf (tens ones row : ℕ) : Type 0 where
  pub some : 0 < tens
  pub within : row ≤ 22
  pub is : 10 * tens + ones ≡ row

pub two_read : (tens ones : ℕ) → 0 < tens → 10 * tens + ones ≤ 22 → two_digit_row tens ones ≡ Some (10 * tens + ones)
two_read tens ones some within = rw (lt-ltb 0 tens some, le-leb (10 * tens + ones) 22 within) refl

pub two_only : (tens ones row : ℕ) → two_digit_row tens ones ≡ Some row → IsRowOf tens ones row
two_only tens ones row read =
    let found = cond_some (nat_lt 0 tens && nat_le (10 * tens + ones) 22) (10 * tens + ones) row read in
    let parts = and_parts (nat_lt 0 tens) (nat_le (10 * tens + ones) 22) found.0 in
    let within = leb-true (10 * tens + ones) 22 parts.1 in
    let same = found.1 in
    record { some = ltb-true 0 tens parts.0; within = omega arith; is = same }

-- a row is read from its digits
pub row_read : (row : ℕ) → row ≤ 22 → row_in (decimal row) ≡ Some row
unfolding row_in
row_read row within = elim (cases_lt row 10) [
  | inl small ↦ rw (decimal_digit row small) (digit_read row (omega arith))
  | inr large ↦
      let e : 10 * (row / 10) + row % 10 ≡ row = omega arith in
      rw (two_digits row large within, digit_read (row / 10) (omega arith), digit_read (row % 10) (omega arith))
      (two_read (row / 10) (row % 10) (omega arith) (omega (arith, e)) ∙ ap Some e)
]

-- what is read as a row are its digits
pub record IsRow (text : List ℕ) (row : ℕ) : Type 0 where
  pub within : row ≤ 22
  pub is : text ≡ decimal row

one_digit : (digit row : ℕ) → digit_in digit ≡ Some row → IsRow (digit ∷ []) row
one_digit digit row read =
    let d = digit_only digit row read in
    let small = d.small in
    record { within = omega arith; is = ap (λ b. b ∷ []) (sym d.is) ∙ sym (decimal_digit row (omega arith)) }

pub both_digits : (tens ones t o row : ℕ) → IsDigit tens t → IsDigit ones o → IsRowOf t o row → IsRow (tens ∷ ones ∷ []) row
both_digits tens ones t o row front back made =
    let some = made.some in
    let is = made.is in
    let low = back.small in
    let tens_is : row / 10 ≡ t = omega arith in
    let ones_is : row % 10 ≡ o = omega arith in
    let written : decimal row ≡ (48 + t) ∷ (48 + o) ∷ [] = rw (tens_is, ones_is) at (two_digits row (omega arith) made.within) in
    record { within = made.within; is = (λ i. sym front.is i ∷ sym back.is i ∷ []) ∙ sym written }

pub row_only : (text : List ℕ) (row : ℕ) → row_in text ≡ Some row → IsRow text row
unfolding row_in
row_only [] row read = absurd (none-some row read)
row_only (digit ∷ []) row read = one_digit digit row read
row_only (tens ∷ ones ∷ []) row read =
    option_and_then_some (λ t. option_and_then (λ o. two_digit_row t o) (digit_in ones)) (digit_in tens) row read
    (λ t front rest. option_and_then_some (λ o. two_digit_row t o) (digit_in ones) row rest
    (λ o back made. both_digits tens ones t o row (digit_only tens t front) (digit_only ones o back) (two_only t o row made)))
row_only (tens ∷ ones ∷ more ∷ rest) row read = absurd (none-some row read)
