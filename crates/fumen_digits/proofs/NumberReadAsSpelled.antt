-- A number that is read stands there, and what stands there is read; a fault is the first one there.
use Rattle.std.proofs.Common.{◌≡◌, ℕ, zero, suc, ◌+◌, ◌*◌, ◌/◌, ◌%◌, ◌^◌, ◌<◌, ◌≤◌, List, [], ◌∷◌, length, get_or, Option, Some, None, Ok, Err, refl, sym, ap, subst, ◌∙◌, ◌⊎◌, inl, inr, arith, rules}
use Rattle.std.specs.Option.{ok_or}
use Rattle.std.proofs.Math.Nat.{pow-succ'}
use Rattle.std.proofs.lemmas.Bool.{cases_lt, lt-ltb, le-ltb}
use Rattle.fumen_digits.specs.Digit.{digit, digit_value, IsDigit, AreDigits}
use Rattle.fumen_digits.specs.Number.{digits, Stands, NumberStands, IsBadDigit, IsTruncated}
use Rattle.fumen_digits.specs.declared.fault.FumenFault.{FumenFault}
use Rattle.fumen_digits.specs.Fault.{IsNumberFault}
use Rattle.fumen_digits.specs.declared.fault.FumenFault.TheVariants.{BadDigit, Truncated}
use Rattle.fumen_digits.specs.Reading.{◌>>=◌, value_at, number_from, number_at}
use Rattle.fumen_digits.proofs.DigitTable.{value_of_digit, digit_of_value}
use Rattle.fumen_digits.proofs.Binds.{bind_ok, bind_err, ok_bind, err_bind}
use Rattle.fumen_digits.proofs.Standing.{Stands-nil, Stands-head, Stands-cons}

-- ---- one digit

abbrev byte_at : List ℕ → ℕ → ℕ
byte_at ds place = get_or ds place 0

value_at_inside : (ds : List ℕ) (start place : ℕ) → place < length ds → value_at ds start place ≡ ok_or (digit_value (byte_at ds place)) (BadDigit place)
unfolding value_at
value_at_inside ds start place lt = rw (lt-ltb place (length ds) lt) refl

value_at_past : (ds : List ℕ) (start place : ℕ) → length ds ≤ place → value_at ds start place ≡ Err (Truncated start)
unfolding value_at
value_at_past ds start place le = rw (le-ltb place (length ds) le) refl

ok_or_some : (o : Option ℕ) (e : FumenFault) (v : ℕ) → ok_or o e ≡ Ok v → o ≡ Some v
ok_or_some o e v is = search rules

ok_or_none : (o : Option ℕ) (e d : FumenFault) → ok_or o e ≡ Err d → (o ≡ None) × (d ≡ e)
ok_or_none o e d is = search rules

-- the byte at the place is a digit, and the value is its own
record Here (ds : List ℕ) (place v : ℕ) : Type 0 where
  lt : place < length ds
  small : v < 64
  byte : byte_at ds place ≡ digit v

value_at_ok : (ds : List ℕ) (start place v : ℕ) → value_at ds start place ≡ Ok v → Here ds place v
value_at_ok ds start place v e =
    elim (cases_lt place (length ds)) [
      | inl lt ↦
          let is = ok_or_some (digit_value (byte_at ds place)) (BadDigit place) v (sym (value_at_inside ds start place lt) ∙ e) in
          let d = digit_of_value (byte_at ds place) v is in
          record { lt = lt; small = d.0; byte = sym d.1 }
      | inr le ↦ absurd (let bad = sym (value_at_past ds start place le) ∙ e in cc)
    ]

value_at_here : (ds : List ℕ) (start place v : ℕ) → Here ds place v → value_at ds start place ≡ Ok v
value_at_here ds start place v h = search (rules, value_at_inside, value_of_digit)

-- why the byte at a place has no value
abbrev Missing : List ℕ → ℕ → ℕ → FumenFault → Type 0
Missing ds start place f =
    ((place < length ds) × (IsDigit (byte_at ds place) → ⊥) × (f ≡ BadDigit place)) ⊎ ((length ds ≤ place) × (f ≡ Truncated start))

value_at_err : (ds : List ℕ) (start place : ℕ) (f : FumenFault) → value_at ds start place ≡ Err f → Missing ds start place f
value_at_err ds start place f e =
    search (rules, cases_lt, ok_or_none, value_at_inside, value_of_digit, value_at_past)

no_value : (b : ℕ) → (IsDigit b → ⊥) → (o : Option ℕ) → digit_value b ≡ o → digit_value b ≡ None
no_value b not None e = e
no_value b not (Some v) e = let d = digit_of_value b v e in absurd (not (v, d.0, sym d.1))

value_at_missing : (ds : List ℕ) (start place : ℕ) (f : FumenFault) → Missing ds start place f → value_at ds start place ≡ Err f
value_at_missing ds start place f h4 = search (rules, no_value, value_at_inside, value_at_past)

-- ---- a number that is read

-- a digit, and the higher ones behind it
number_more : (ds : List ℕ) (place count v high n : ℕ) → Here ds place v → NumberStands ds (place + 1) count high → v + 64 * high ≡ n → NumberStands ds place (suc count) n
unfolding digits
number_more ds place count v high n here above is = search (rules, pow-succ', digits, Stands-cons, digit)

number_parts : (ds : List ℕ) (place count n : ℕ) → NumberStands ds place (suc count) n → Here ds place (n % 64) × NumberStands ds (place + 1) count (n / 64)
unfolding digits
number_parts ds place count n s =
    let parts = Stands-head ds place (digit (n % 64)) (digits count (n / 64)) (place + suc count) s.stands in
    let more : 64 ^ suc count ≡ 64 * 64 ^ count = pow-succ' 64 count in
    let below : n / 64 < 64 ^ count = omega (arith, s.below) in
    (record { lt = parts.0; small = omega arith; byte = parts.1 }, record { below = below; stands = subst (λ (j : ℕ). Stands ds (place + 1) (digits count (n / 64)) j) (omega arith) parts.2 })

pub stands_from_read : (ds : List ℕ) (start place count n : ℕ) → place ≤ length ds → number_from ds start place count ≡ Ok n → NumberStands ds place count n
unfolding number_from digits
stands_from_read ds start place zero n le e = search (rules, Stands-nil)
stands_from_read ds start place (suc count) n le e =
    let v = bind_ok (value_at ds start place) (λ value. number_from ds start (place + 1) count >>= λ high. Ok (value + 64 * high)) n e in
    let h = bind_ok (number_from ds start (place + 1) count) (λ high. Ok (v.0 + 64 * high)) n v.2 in
    let here = value_at_ok ds start place v.0 v.1 in
    let above = stands_from_read ds start (place + 1) count h.0 (omega (arith, here.lt)) h.1 in
    let is : v.0 + 64 * h.0 ≡ n = let both = h.2 in cc in
    number_more ds place count v.0 h.0 n here above is

pub read_from_stands : (ds : List ℕ) (start place count n : ℕ) → NumberStands ds place count n → number_from ds start place count ≡ Ok n
unfolding number_from digits
read_from_stands ds start place zero n s = search rules
read_from_stands ds start place (suc count) n s =
    let parts = number_parts ds place count n s in
    let above = read_from_stands ds start (place + 1) count (n / 64) parts.1 in
    let is : n % 64 + 64 * (n / 64) ≡ n = omega arith in
    ok_bind (value_at ds start place) (λ value. number_from ds start (place + 1) count >>= λ high. Ok (value + 64 * high)) (n % 64) (value_at_here ds start place (n % 64) parts.0)
    ∙ (ok_bind (number_from ds start (place + 1) count) (λ high. Ok (n % 64 + 64 * high)) (n / 64) above ∙ ap (λ (k : ℕ). Ok k) is)

-- ---- the fault that is met first

-- the fault of a number that begins at start, from a place in it on
abbrev pub IsFaultFrom : List ℕ → ℕ → ℕ → ℕ → FumenFault → Type 0
IsFaultFrom ds start place count f =
    ((there : ℕ) × IsBadDigit ds place count there × (f ≡ BadDigit there)) ⊎ (IsTruncated ds place count × (f ≡ Truncated start))

bad_more : (ds : List ℕ) (place count v there : ℕ) → Here ds place v → IsBadDigit ds (place + 1) count there → IsBadDigit ds place (suc count) there
bad_more ds place count v there here bad =
    record {
      front = digit v ∷ bad.front;
      digits_stand = Stands-cons ds place (digit v) bad.front there here.lt here.byte bad.digits_stand;
      each = ((v, here.small, refl), bad.each);
      early = omega (arith, bad.early);
      there = bad.there;
      none = bad.none;
    }

truncated_more : (ds : List ℕ) (place count v : ℕ) → Here ds place v → IsTruncated ds (place + 1) count → IsTruncated ds place (suc count)
truncated_more ds place count v here cut =
    record {
      front = digit v ∷ cut.front;
      digits_stand = Stands-cons ds place (digit v) cut.front (length ds) here.lt here.byte cut.digits_stand;
      each = ((v, here.small, refl), cut.each);
      short = omega (arith, cut.short);
    }

missing_here : (ds : List ℕ) (start place count : ℕ) (f : FumenFault) → place ≤ length ds → Missing ds start place f → IsFaultFrom ds start place (suc count) f
missing_here ds start place count f le h6 = search rules

fault_more : (ds : List ℕ) (start place count v : ℕ) (f : FumenFault) → Here ds place v → IsFaultFrom ds start (place + 1) count f → IsFaultFrom ds start place (suc count) f
fault_more ds start place count v f here h7 = search (rules, bad_more, truncated_more)

pub fault_from_read : (ds : List ℕ) (start place count : ℕ) (f : FumenFault) → place ≤ length ds → number_from ds start place count ≡ Err f → IsFaultFrom ds start place count f
unfolding number_from
fault_from_read ds start place zero f le e = absurd cc
fault_from_read ds start place (suc count) f le e =
    elim (bind_err (value_at ds start place) (λ value. number_from ds start (place + 1) count >>= λ high. Ok (value + 64 * high)) f e) [
      | inl here ↦ missing_here ds start place count f le (value_at_err ds start place f here)
      | inr v ↦
          let here = value_at_ok ds start place v.0 v.1 in
          elim (bind_err (number_from ds start (place + 1) count) (λ high. Ok (v.0 + 64 * high)) f v.2) [
            | inl above ↦ fault_more ds start place count v.0 f here (fault_from_read ds start (place + 1) count f (omega (arith, here.lt)) above)
            | inr h ↦ absurd (let bad = h.2 in cc)
          ]
    ]

-- what stands before the fault: nothing, or a digit
bad_cases : (ds : List ℕ) (place there : ℕ) (front : List ℕ) → Stands ds place front there → AreDigits front
    → ((there ≡ place) × (front ≡ [])) ⊎ ((v : ℕ) × (behind : List ℕ) × Here ds place v × Stands ds (place + 1) behind there × AreDigits behind)
bad_cases ds place there [] s each = inl (omega (arith, s.upto), refl)
bad_cases ds place there (x ∷ behind) s each =
    let parts = Stands-head ds place x behind there s in
    inr (each.0.0, behind, record { lt = parts.0; small = each.0.1; byte = parts.1 ∙ each.0.2 }, parts.2, each.1)

read_digit_fault : (ds : List ℕ) (start place count v : ℕ) (f : FumenFault) → Here ds place v → number_from ds start (place + 1) count ≡ Err f → number_from ds start place (suc count) ≡ Err f
unfolding number_from
read_digit_fault ds start place count v f here above = search (rules, ok_bind, value_at, value_at_here, err_bind)

read_missing : (ds : List ℕ) (start place count : ℕ) (f : FumenFault) → Missing ds start place f → number_from ds start place (suc count) ≡ Err f
unfolding number_from
read_missing ds start place count f m = search (rules, err_bind, value_at, value_at_missing)

pub read_from_bad : (ds : List ℕ) (start place count there : ℕ) → IsBadDigit ds place count there → number_from ds start place count ≡ Err (BadDigit there)
read_from_bad ds start place zero there bad = absurd (omega (arith, bad.early, bad.digits_stand.upto))
read_from_bad ds start place (suc count) there bad =
    elim (bad_cases ds place there bad.front bad.digits_stand bad.each) [
      | inl first ↦
          read_missing ds start place count (BadDigit there) (inl (subst (λ (k : ℕ). k < length ds) first.0 bad.there, subst (λ (k : ℕ). IsDigit (byte_at ds k) → ⊥) first.0 bad.none, ap (λ (k : ℕ). BadDigit k) first.0))
      | inr more ↦
          read_digit_fault ds start place count more.0 (BadDigit there) more.2 (read_from_bad ds start (place + 1) count there (record { front = more.1; digits_stand = more.3; each = more.4; early = omega (arith, bad.early); there = bad.there; none = bad.none }))
    ]

pub read_from_truncated : (ds : List ℕ) (start place count : ℕ) → IsTruncated ds place count → number_from ds start place count ≡ Err (Truncated start)
read_from_truncated ds start place zero cut = absurd (omega (arith, cut.short, cut.digits_stand.upto))
read_from_truncated ds start place (suc count) cut =
    elim (bad_cases ds place (length ds) cut.front cut.digits_stand cut.each) [
      | inl first ↦ read_missing ds start place count (Truncated start) (inr (omega (arith, first.0), refl))
      | inr more ↦
          read_digit_fault ds start place count more.0 (Truncated start) more.2 (read_from_truncated ds start (place + 1) count (record { front = more.1; digits_stand = more.3; each = more.4; short = omega (arith, cut.short) }))
    ]

-- ---- a number at its own place

pub number_fault_from_read : (ds : List ℕ) (place count : ℕ) (f : FumenFault) → place ≤ length ds → number_at ds place count ≡ Err f → IsNumberFault ds place count f
number_fault_from_read ds place count f le e = search (rules, fault_from_read)

pub read_from_number_fault : (ds : List ℕ) (place count : ℕ) (f : FumenFault) → IsNumberFault ds place count f → number_at ds place count ≡ Err f
read_from_number_fault ds place count f fault = search (rules, read_from_bad, read_from_truncated)
