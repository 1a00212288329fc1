-- What two tests say of one of them; what `list_all` says of one element, and after a write.
use Rattle.std.proofs.Common.{◌≡◌, ℕ, ◌<◌, Bool, true, false, not, ◌&&◌, ◌||◌, List, [], ◌∷◌, length, get_or, set, zero, suc, refl, arith, rules}
use Rattle.std.specs.List.{list_all}
use Rattle.std.proofs.lemmas.Bool.{and_from}

pub and_first : (a b : Bool) → (a && b) ≡ true → a ≡ true
and_first a b h = search rules

pub and_second : (a b : Bool) → (a && b) ≡ true → b ≡ true
and_second a b h = search rules

-- one of two holds, and the first does not
pub implied : (a b : Bool) → a ≡ true → (not a || b) ≡ true → b ≡ true
implied a b holds h = search rules

pub or_second : (a b : Bool) → a ≡ false → (a || b) ≡ true → b ≡ true
or_second a b fails h = search rules

-- what holds of all holds of each
pub list_all_each : {X : Type 0} (test : X → Bool) (xs : List X) (i : ℕ) (d : X) → list_all test xs ≡ true → i < length xs → test (get_or xs i d) ≡ true
list_all_each test [] i d all within = absurd (omega arith)
list_all_each test (x ∷ xs) zero d all within = and_first (test x) (list_all test xs) all
list_all_each test (x ∷ xs) (suc i) d all within = list_all_each test xs i d (and_second (test x) (list_all test xs) all) (omega arith)

pub list_all-set : {X : Type 0} (test : X → Bool) (xs : List X) (i : ℕ) (y : X) → list_all test xs ≡ true → test y ≡ true → list_all test (set xs i y) ≡ true
list_all-set test [] i y all holds = all
list_all-set test (x ∷ xs) zero y all holds = and_from (test y) (list_all test xs) holds (and_second (test x) (list_all test xs) all)
list_all-set test (x ∷ xs) (suc i) y all holds =
    and_from (test x) (list_all test (set xs i y)) (and_first (test x) (list_all test xs) all) (list_all-set test xs i y (and_second (test x) (list_all test xs) all) holds)

pub list_all-true : {X : Type 0} (test : X → Bool) (xs : List X) → ((x : X) → test x ≡ true) → list_all test xs ≡ true
list_all-true test [] each = refl
list_all-true test (x ∷ xs) each = and_from (test x) (list_all test xs) (each x) (list_all-true test xs each)
