-- Digits of numbers, one more at a time.
use Rattle.std.proofs.lemmas.Grind.{common_steps}
use Rattle.std.proofs.Common.{◌≡◌, ℕ, zero, suc, ◌+◌, ◌-◌, ◌/◌, ◌%◌, ◌<◌, List, [], ◌∷◌, ◌++◌, length, take, set, refl, ap, ◌∙◌, append_assoc, arith, rules}
use Rattle.std.specs.List.{flat_map}
use Rattle.std.proofs.lemmas.List.{take_more_set}
use Rattle.fumen_digits.specs.Digit.{digit, AreDigits}
use Rattle.fumen_digits.specs.Number.{digits}

pub length-digits : (count n : ℕ) → length (digits count n) ≡ count
unfolding digits
length-digits zero n = refl
length-digits (suc count) n = ap suc (length-digits count (n / 64))

-- the next digit is written behind those so far
pub digits_more : (spelled : List ℕ) (count i rest d : ℕ) (total : List ℕ) → i < count → i < length spelled → d ≡ digit (rest % 64)
    → take i spelled ++ digits (count - i) rest ≡ total
    → take (i + 1) (set spelled i d) ++ digits (count - (i + 1)) (rest / 64) ≡ total
unfolding digits
digits_more spelled count i rest d total lt inside is so_far =
    let k : count - i ≡ suc (count - (i + 1)) = omega arith in
    let one : take i spelled ++ (digit (rest % 64) ∷ digits (count - (i + 1)) (rest / 64)) ≡ total = rw k at so_far in
    rw (take_more_set spelled i d inside, is) (append_assoc (take i spelled) (digit (rest % 64) ∷ []) (digits (count - (i + 1)) (rest / 64)) ∙ one)

-- all digits are written
pub digits_all : (spelled : List ℕ) (count i rest : ℕ) (total : List ℕ) → i ≡ count → take i spelled ++ digits (count - i) rest ≡ total → take count spelled ≡ total
unfolding digits
digits_all spelled count i rest total same so_far = search rules

-- ---- digits only

pub AreDigits-append : (a b : List ℕ) → AreDigits a → AreDigits b → AreDigits (a ++ b)
AreDigits-append a b one other = grind (arith, common_steps)

pub AreDigits-flat_map : {X : Type 0} (spelling : X → List ℕ) → ((x : X) → AreDigits (spelling x)) → (xs : List X) → AreDigits (flat_map spelling xs)
AreDigits-flat_map spelling each [] = tt
AreDigits-flat_map spelling each (x ∷ xs) = search (rules, AreDigits-append, AreDigits-flat_map spelling each xs)

pub AreDigits-digits : (count n : ℕ) → AreDigits (digits count n)
unfolding digits
AreDigits-digits zero n = tt
AreDigits-digits (suc count) n = ((n % 64, omega arith, refl), AreDigits-digits count (n / 64))
