-- Characters packed into a group, one at a time, and unpacked again.
use Rattle.std.proofs.Common.{◌≡◌, ℕ, zero, suc, ◌+◌, ◌-◌, ◌*◌, ◌/◌, ◌^◌, ◌<◌, ◌≤◌, min, List, length, get_or, take, drop, refl, ap, arith, rules}
use Rattle.std.proofs.Math.Nat.{pow-succ', pow-le-pow_right, mul-le-mul_left, mul-suc}
use Rattle.std.proofs.lemmas.List.{drop_more, drop_all, take_min}
use Rattle.std.proofs.lemmas.Grind.{common_steps}
use Rattle.fumen_comment.specs.Part.{packed, unpacked}

-- so many characters are packed, and what is left completes the number
pub record IsPackedSoFar (text : List ℕ) (i number weight : ℕ) : Type 0 where
  pub weight_is : weight ≡ 96 ^ i
  pub below : number < weight
  pub completes : number + weight * packed (drop i text) ≡ packed text

pub packed_fits : (text : List ℕ) (i number weight c : ℕ) → i < 4 → c < 127 → IsPackedSoFar text i number weight
    → (weight * 96 ≤ 96 ^ 4) × (number + weight * (c - 32) < weight * 96)
packed_fits text i number weight c early small s =
    let positive : 0 < 96 = omega arith in
    let most : suc i ≤ 4 = omega arith in
    let power : 96 ^ suc i ≤ 96 ^ 4 = pow-le-pow_right positive most in
    let more : 96 ^ suc i ≡ 96 * 96 ^ i = pow-succ' 96 i in
    let value : suc (c - 32) ≤ 96 = omega arith in
    let product : weight * suc (c - 32) ≤ weight * 96 = mul-le-mul_left weight value in
    let apart : weight * suc (c - 32) ≡ weight * (c - 32) + weight = mul-suc weight (c - 32) in
    (omega (arith, s.weight_is), omega (arith, s.below))

pub packed_more : (text : List ℕ) (i number weight c : ℕ) → i < length text → i < 4 → c < 127 → c ≡ get_or text i 0 → IsPackedSoFar text i number weight
    → IsPackedSoFar text (i + 1) (number + weight * (c - 32)) (weight * 96)
unfolding packed
packed_more text i number weight c lt early small is s = search (rules, pow-succ', drop_more, packed_fits)

pub packed_all : (text : List ℕ) (i number weight : ℕ) → length text ≤ i → IsPackedSoFar text i number weight → number ≡ packed text
unfolding packed
packed_all text i number weight le s = search (rules, drop_all)

pub packed_below : (text : List ℕ) (i number weight : ℕ) → i ≤ 4 → IsPackedSoFar text i number weight → number < 96 ^ 4
packed_below text i number weight most s = search (rules, pow-le-pow_right)

pub length-unpacked : (count group : ℕ) → length (unpacked count group) ≡ count
unfolding unpacked
length-unpacked zero group = refl
length-unpacked (suc count) group = ap suc (length-unpacked count (group / 96))

-- the characters of a group that are still to come
pub taken : (left group n : ℕ) (characters : List ℕ) → n ≡ min left 4 → characters ≡ unpacked 4 group → take n characters ≡ take left (unpacked 4 group)
taken left group n characters n_is is = grind (arith, common_steps, length-unpacked, min, take_min)
