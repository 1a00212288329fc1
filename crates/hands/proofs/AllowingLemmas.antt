-- What hands allow, one sum and one hand more.
use Rattle.std.proofs.Common.{◌≡◌, ℕ, suc, ◌+◌, ◌-◌, ◌*◌, ◌/◌, ◌%◌, ◌^◌, ◌<◌, ◌≤◌, true, ◌||◌, ◌==◌, bit_or, List, length, get_or, refl, sym, ap, subst, ◌∙◌, inl, inr, arith}
use Rattle.std.proofs.Common.{set as list_set}
use Rattle.std.proofs.Math.Bool.{or-true, true-or}
use Rattle.std.proofs.lemmas.Bool.{both_ways, cases_eq, cases_lt, eq-eqb, or_parts}
use Rattle.std.proofs.lemmas.List.{get_or-set_other}
use Rattle.std.proofs.lemmas.Grind.{get_or-set_at}
use Rattle.std.proofs.lemmas.Nat.{one_shl}
use Rattle.lane_board.specs.Lanes.{has_bit}
use Rattle.lane_board.proofs.CallerLemmas.{has_bit-or, has_bit-pow}
use Rattle.hold_queue.specs.declared.hold.Hold.{Hold}
use Rattle.hold_queue.specs.declared.hold.Hold.TheVariants.{Allowed, Avoided}
use Rattle.hands.specs.Weights.{AllowsTaken, AreNoted, KeepsBits, code_at, first_weights}
use Rattle.hands.proofs.WeightLemmas.{allows-but-one, allows-first}

-- one bit alone
pub has_bit-one : (x k : ℕ) → x < 64 → has_bit (1 * 2 ^ x % 2 ^ 64) k ≡ (k == x)
has_bit-one x k small = ap (λ n. has_bit n k) (one_shl x 64 small) ∙ has_bit-pow x k

-- ---- bits that are kept

pub keeps-on : (old now next : List ℕ) → KeepsBits old now → KeepsBits now next → KeepsBits old next
keeps-on old now next first second = record { each = λ sum bit there. second.each sum bit (first.each sum bit there) }

pub allows-kept : (hold : Hold) (left hand : ℕ) (weights old new : List ℕ) (bit : ℕ) → KeepsBits old new → AllowsTaken hold left hand weights old bit → AllowsTaken hold left hand weights new bit
allows-kept hold left hand weights old new bit keeps allows = record { each = λ pieces some few taken. keeps.each _ bit (allows.each pieces some few taken) }

-- a bit more at a sum
pub keeps-set : (allowed : List ℕ) (sum n : ℕ) → sum < length allowed → KeepsBits allowed (list_set allowed sum (bit_or (get_or allowed sum 0) n))
keeps-set allowed sum n within = record {
  each = λ other bit there. elim (cases_eq other sum) [
    | inl same ↦
        ap (λ m. has_bit m bit) (get_or-set_at allowed sum other (bit_or (get_or allowed sum 0) n) 0 same within) ∙ has_bit-or (get_or allowed sum 0) n bit
        ∙ ap (λ b. b || has_bit n bit) (ap (λ j. has_bit (get_or allowed j 0) bit) (sym same) ∙ there) ∙ true-or (has_bit n bit)
    | inr apart ↦ ap (λ m. has_bit m bit) (get_or-set_other allowed sum other (bit_or (get_or allowed sum 0) n) 0 apart) ∙ there
  ];
}

pub bit-set : (allowed : List ℕ) (sum bit : ℕ) → sum < length allowed → bit < 64 → has_bit (get_or (list_set allowed sum (bit_or (get_or allowed sum 0) (1 * 2 ^ bit % 2 ^ 64))) sum 0) bit ≡ true
bit-set allowed sum bit within low =
    ap (λ m. has_bit m bit) (get_or-set_at allowed sum sum (bit_or (get_or allowed sum 0) (1 * 2 ^ bit % 2 ^ 64)) 0 refl within)
    ∙ has_bit-or (get_or allowed sum 0) (1 * 2 ^ bit % 2 ^ 64) bit ∙ ap (λ b. has_bit (get_or allowed sum 0) bit || b) (has_bit-one bit bit low ∙ eq-eqb bit bit refl) ∙ or-true (has_bit (get_or allowed sum 0) bit)

-- ---- the sum of the first weights

-- the weights of the first i pieces, and those of the next ones
pub record Summing (weights : List ℕ) (hand i sum rest : ℕ) : Type 0 where
  pub is : (more : ℕ) → sum + first_weights weights more rest ≡ first_weights weights (i + more) hand
  pub small : sum ≤ 65535 * i

pub sum-starts : (weights : List ℕ) (hand : ℕ) → Summing weights hand 0 0 hand
sum-starts weights hand = record {
  is = λ more. (let same = ap (λ n. first_weights weights n hand) {x = more} {y = 0 + more} (omega arith) in omega (arith, same));
  small = omega arith;
}

pub sum-more : (weights : List ℕ) (hand i sum rest weight : ℕ) → weight ≡ get_or weights (rest % 8) 0 → weight ≤ 65535 → Summing weights hand i sum rest
    → Summing weights hand (i + 1) (sum + weight) (rest / 8)
unfolding first_weights
sum-more weights hand i sum rest weight is light state =
    let small = state.small in record {
      is = λ more.
          let longer = state.is (suc more) ∙ ap (λ n. first_weights weights n hand) {x = i + suc more} {y = i + 1 + more} (omega arith) in
          omega (arith, is, longer);
      small = omega (arith, small, light);
    }

pub sum-ends : (weights : List ℕ) (hand i sum rest : ℕ) → Summing weights hand i sum rest → sum ≡ first_weights weights i hand
unfolding first_weights
sum-ends weights hand i sum rest state =
    let whole = state.is 0 ∙ ap (λ n. first_weights weights n hand) {x = i + 0} {y = i} (omega arith) in
    omega (arith, whole)

-- ---- without hold

-- a bit is set at the sums of the first pieces, at most i
pub record FirstAllowed (weights : List ℕ) (hand : ℕ) (old allowed : List ℕ) (bit i sum rest : ℕ) : Type 0 where
  pub kept : KeepsBits old allowed
  pub summing : Summing weights hand i sum rest
  pub set_at : (count : ℕ) → 0 < count → count ≤ i → has_bit (get_or allowed (first_weights weights count hand) 0) bit ≡ true

pub first-starts : (weights : List ℕ) (hand : ℕ) (allowed : List ℕ) (bit : ℕ) → FirstAllowed weights hand allowed allowed bit 0 0 hand
first-starts weights hand allowed bit = record {
  kept = record { each = λ sum bit there. there };
  summing = sum-starts weights hand;
  set_at = λ count some few. absurd (omega arith);
}

pub first-more : (weights : List ℕ) (hand : ℕ) (old allowed next : List ℕ) (bit i sum rest weight : ℕ) → weight ≡ get_or weights (rest % 8) 0 → weight ≤ 65535 → KeepsBits allowed next
    → has_bit (get_or next (sum + weight) 0) bit ≡ true → FirstAllowed weights hand old allowed bit i sum rest
    → FirstAllowed weights hand old next bit (i + 1) (sum + weight) (rest / 8)
first-more weights hand old allowed next bit i sum rest weight is light keeps there state =
    let summing = sum-more weights hand i sum rest weight is light state.summing in record {
      kept = keeps-on old allowed next state.kept keeps;
      summing = summing;
      set_at = λ count some few. elim (cases_lt count (i + 1)) [
        | inl before ↦ keeps.each _ bit (state.set_at count some (omega arith))
        | inr past ↦
            let same : count ≡ i + 1 = omega arith in
            ap (λ n. has_bit (get_or next (first_weights weights n hand) 0) bit) same
            ∙ ap (λ n. has_bit (get_or next n 0) bit) (sym (sum-ends weights hand (i + 1) (sum + weight) (rest / 8) summing)) ∙ there
      ];
    }

pub first-ends : (weights : List ℕ) (left hand : ℕ) (old allowed : List ℕ) (bit i sum rest : ℕ) → left ≤ i → FirstAllowed weights hand old allowed bit i sum rest → AllowsTaken Avoided left hand weights allowed bit
first-ends weights left hand old allowed bit i sum rest all state = allows-first left hand weights allowed bit (λ count some few. state.set_at count some (omega arith))

-- ---- with hold

-- the pieces from index i on
pub record IsBehind (hand i rest : ℕ) : Type 0 where
  pub each : (k : ℕ) → code_at rest k ≡ code_at hand (i + k)

pub behind-more : (hand i rest : ℕ) → IsBehind hand i rest → IsBehind hand (i + 1) (rest / 8)
unfolding code_at
behind-more hand i rest state = record { each = λ k. state.each (suc k) ∙ ap (code_at hand) {x = i + suc k} {y = i + 1 + k} (omega arith) }

-- a bit is set at the whole less the weight of one of the first i pieces
pub record ButOneAllowed (weights : List ℕ) (hand whole : ℕ) (old allowed : List ℕ) (bit i rest : ℕ) : Type 0 where
  pub kept : KeepsBits old allowed
  pub behind : IsBehind hand i rest
  pub set_at : (index sum : ℕ) → index < i → sum + get_or weights (code_at hand index) 0 ≡ whole → has_bit (get_or allowed sum 0) bit ≡ true

pub but-one-more : (weights : List ℕ) (hand whole : ℕ) (old allowed next : List ℕ) (bit i rest without : ℕ) → without ≡ whole - get_or weights (rest % 8) 0 → KeepsBits allowed next → has_bit (get_or next without 0) bit ≡ true
    → ButOneAllowed weights hand whole old allowed bit i rest → ButOneAllowed weights hand whole old next bit (i + 1) (rest / 8)
unfolding code_at
but-one-more weights hand whole old allowed next bit i rest without is keeps there state = record {
  kept = keeps-on old allowed next state.kept keeps;
  behind = behind-more hand i rest state.behind;
  set_at = λ index sum few whole_is. elim (cases_lt index i) [
    | inl before ↦ keeps.each sum bit (state.set_at index sum before whole_is)
    | inr past ↦
        let here : rest % 8 ≡ code_at hand index = state.behind.each 0 ∙ ap (code_at hand) {x = i + 0} {y = index} (omega arith) in
        let same = ap (λ code. get_or weights code 0) here in
        let at : sum ≡ without = omega (arith, same, whole_is, is) in
        ap (λ n. has_bit (get_or next n 0) bit) at ∙ there
  ];
}

-- a bit is set at the sums of the first pieces but one, for at most i that are taken
pub record HeldAllowed (weights : List ℕ) (hand : ℕ) (old allowed : List ℕ) (bit i : ℕ) : Type 0 where
  pub kept : KeepsBits old allowed
  pub set_at : (count index sum : ℕ) → 0 < count → count ≤ i → index ≤ count → sum + get_or weights (code_at hand index) 0 ≡ first_weights weights (suc count) hand → has_bit (get_or allowed sum 0) bit ≡ true

pub held-more : (weights : List ℕ) (hand : ℕ) (old allowed next : List ℕ) (bit i : ℕ) → KeepsBits allowed next
    → ((index sum : ℕ) → index < i + 2 → sum + get_or weights (code_at hand index) 0 ≡ first_weights weights (i + 2) hand → has_bit (get_or next sum 0) bit ≡ true)
    → HeldAllowed weights hand old allowed bit i → HeldAllowed weights hand old next bit (i + 1)
held-more weights hand old allowed next bit i keeps there state = record {
  kept = keeps-on old allowed next state.kept keeps;
  set_at = λ count index sum some few low is. elim (cases_lt count (i + 1)) [
    | inl before ↦ keeps.each sum bit (state.set_at count index sum some (omega arith) low is)
    | inr past ↦
        let same : suc count ≡ i + 2 = omega arith in
        there index sum (omega arith) (is ∙ ap (λ n. first_weights weights n hand) same)
  ];
}

pub held-ends : (weights : List ℕ) (left hand : ℕ) (old allowed : List ℕ) (bit i : ℕ) → left ≤ i → HeldAllowed weights hand old allowed bit i → AllowsTaken Allowed left hand weights allowed bit
held-ends weights left hand old allowed bit i all state =
    allows-but-one left hand weights allowed bit (λ count index sum some few low is. state.set_at count index sum some (omega arith) low is)

-- ---- one hand after the other

-- a hand that allows its sums
pub noted-more : (hold : Hold) (left : ℕ) (hands weights : List ℕ) (size : ℕ) (allowed next : List ℕ) (open_hands i : ℕ) → KeepsBits allowed next → AllowsTaken hold left (get_or hands i 0) weights next (i / size)
    → AreNoted hold left hands weights size allowed open_hands i → AreNoted hold left hands weights size next open_hands (i + 1)
noted-more hold left hands weights size allowed next open_hands i keeps allows state = record {
  each = λ k below none. elim (cases_lt k i) [
    | inl before ↦ allows-kept hold left (get_or hands k 0) weights allowed next (k / size) keeps (state.each k before none)
    | inr past ↦
        let same : i ≡ k = omega arith in
        subst (λ n. AllowsTaken hold left (get_or hands n 0) weights next (n / size)) same allows
  ];
}

-- a hand that is open
pub noted-open : (hold : Hold) (left : ℕ) (hands weights : List ℕ) (size : ℕ) (allowed next : List ℕ) (open_hands i : ℕ) → i / size < 64 → KeepsBits allowed next
    → AreNoted hold left hands weights size allowed open_hands i → AreNoted hold left hands weights size next (bit_or open_hands (1 * 2 ^ (i / size) % 2 ^ 64)) (i + 1)
noted-open hold left hands weights size allowed next open_hands i low keeps state = record {
  each = λ k below none.
      let bit = 1 * 2 ^ (i / size) % 2 ^ 64 in
      let both = or_parts (has_bit open_hands (k / size)) (has_bit bit (k / size)) (sym (has_bit-or open_hands bit (k / size)) ∙ none) in
      elim (cases_lt k i) [
        | inl before ↦ allows-kept hold left (get_or hands k 0) weights allowed next (k / size) keeps (state.each k before both.0)
        | inr past ↦
            let same : k ≡ i = omega arith in
            absurd (both_ways _ both.1 (has_bit-one (i / size) (k / size) low ∙ eq-eqb (k / size) (i / size) (ap (λ n. n / size) same)))
      ];
}
