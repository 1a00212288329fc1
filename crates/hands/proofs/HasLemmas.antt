-- What lists have, one number on.
use Rattle.std.proofs.Common.{ℕ, suc, inl, inr, ◌≡◌, ◌+◌, ◌<◌, ◌≤◌, true, false, ◌||◌, ◌==◌, List, [], ◌∷◌, ◌++◌, length, get_or, take, refl, ap, ◌∙◌, arith}
use Rattle.std.specs.List.{list_any}
use Rattle.std.proofs.lemmas.Bool.{eqb-true, false≢true, or_cases}
use Rattle.std.proofs.lemmas.Bool.Decides.{nat_tests}
use Rattle.std.proofs.lemmas.List.{take_all}
use Rattle.std.proofs.lemmas.List.Folds.{list_any-append, list_any_at, list_any_more}
use Rattle.std.proofs.Math.Bool.{or-false}
use Rattle.hands.specs.Numbers.{has_number}

pub has-push : (xs : List ℕ) (y number : ℕ) → has_number (xs ++ y ∷ []) number ≡ (has_number xs number || y == number)
unfolding has_number
has-push xs y number = list_any-append (λ x. x == number) xs (y ∷ []) ∙ ap (λ b. has_number xs number || b) (or-false (y == number))

pub has-more : (xs : List ℕ) (i number : ℕ) → i < length xs → has_number (take (i + 1) xs) number ≡ (has_number (take i xs) number || get_or xs i 0 == number)
unfolding has_number
has-more xs i number below = list_any_more (λ x. x == number) xs i 0 below

pub has-none : (number : ℕ) → has_number [] number ≡ false
unfolding has_number
has-none number = refl

pub has-all : (xs : List ℕ) (i number : ℕ) → length xs ≤ i → has_number (take i xs) number ≡ has_number xs number
has-all xs i number all = ap (λ l. has_number l number) (take_all i xs all)

pub has-there : (xs : List ℕ) (k number : ℕ) → k < length xs → get_or xs k 0 ≡ number → has_number xs number ≡ true
unfolding has_number
has-there xs k number below same = list_any_at (λ x. x == number) xs k 0 below (grind (arith, nat_tests))

pub number-at : (xs : List ℕ) (number : ℕ) → has_number xs number ≡ true → (k : ℕ) × (k < length xs) × (get_or xs k 0 ≡ number)
unfolding has_number
number-at [] number there = absurd (false≢true there)
number-at (x ∷ xs) number there = elim (or_cases (x == number) (list_any (λ y. y == number) xs) there) [
  | inl first ↦ (0, omega arith, eqb-true x number first)
  | inr later ↦ let w = number-at xs number later in (suc w.0, omega (arith, w.1), w.2)
]
