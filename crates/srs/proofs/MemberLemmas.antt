-- What a list contains, and what a filter and a search take from it.
use Rattle.std.proofs.Common.{◌≡◌, ◌⊎◌, ℕ, zero, suc, ◌+◌, ◌<◌, ◌≤◌, Bool, true, false, cond, List, [], ◌∷◌, map, refl, sym, ap, subst, ◌∙◌, inl, inr, arith, rules}
use Rattle.std.specs.Prelude.{Some, filter, find, Contains}
use Rattle.std.specs.List.{AllByRecursion, flat_map, range_with_len, list_any}
use Rattle.std.proofs.lemmas.Bool.{cases_Bool, cases_lt}
use Rattle.std.proofs.lemmas.List.Folds.{Any-from_list_any, list_any-from_Any}
use Rattle.std.proofs.lemmas.List.Elements.{Contains-append_cases, Contains-append_left, Contains-append_right}

-- a filter and a search, at a first element
module _ {A : Type 0} (test : A → Bool) (x : A) (xs : List A) where
  pub filter-true : test x ≡ true → filter test (x ∷ xs) ≡ x ∷ filter test xs
  filter-true e = ap (λ b. cond b (x ∷ filter test xs) (filter test xs)) e

  pub filter-false : test x ≡ false → filter test (x ∷ xs) ≡ filter test xs
  filter-false e = ap (λ b. cond b (x ∷ filter test xs) (filter test xs)) e

  pub find-true : test x ≡ true → find test (x ∷ xs) ≡ Some x
  find-true e = ap (λ b. cond b (Some x) (find test xs)) e

  pub find-false : test x ≡ false → find test (x ∷ xs) ≡ find test xs
  find-false e = ap (λ b. cond b (Some x) (find test xs)) e

pub some_same : {A : Type 0} {x y : A} → Some x ≡ Some y → x ≡ y
some_same e = cc

-- a list contains its first element, and what its rest contains, and nothing else
module _ {A : Type 0} where
  pub Contains-here : (x : A) (xs : List A) → Contains (x ∷ xs) x
  Contains-here x xs = (0, omega arith, refl)

  pub Contains-there : (x : A) (xs : List A) (y : A) → Contains xs y → Contains (x ∷ xs) y
  Contains-there x xs y among = (suc among.0, omega (arith, among.1), among.2)

  pub Contains-cases : (x : A) (xs : List A) (y : A) → Contains (x ∷ xs) y → (x ≡ y) ⊎ Contains xs y
  Contains-cases x xs y among = search rules

  pub Contains-none : (y : A) → Contains [] y → ⊥
  Contains-none y among = omega (arith, among.1)

  -- what holds of each, by recursion, holds of what the list contains
  pub each-contained : (P : A → Type 0) (xs : List A) (y : A) → AllByRecursion P xs → Contains xs y → P y
  each-contained P [] y all among = absurd (Contains-none y among)
  each-contained P (x ∷ xs) y all among = search (rules, (each-contained P xs y all.1))

  pub each-from_contained : (P : A → Type 0) (xs : List A) → ((y : A) → Contains xs y → P y) → AllByRecursion P xs
  each-from_contained P [] each = tt
  each-from_contained P (x ∷ xs) each = (each x (Contains-here x xs), each-from_contained P xs (λ y among. each y (Contains-there x xs y among)))

  -- some element passes a test
  pub some_passes : (test : A → Bool) (xs : List A) → list_any test xs ≡ true → (x : A) × Contains xs x × (test x ≡ true)
  some_passes test xs passes = let some = Any-from_list_any test xs passes in (some.1, (some.0, some.2, some.3), some.4)

  pub any_passes : (test : A → Bool) (xs : List A) (x : A) → Contains xs x → test x ≡ true → list_any test xs ≡ true
  any_passes test xs x among passes = list_any-from_Any test xs (among.0, x, among.1, among.2, passes)

  -- a filter keeps what passes its test
  pub Contains-filter : (test : A → Bool) (xs : List A) (y : A) → Contains xs y → test y ≡ true → Contains (filter test xs) y
  Contains-filter test [] y among passes = among
  Contains-filter test (x ∷ xs) y among passes = elim (Contains-cases x xs y among) [
    | inl here ↦ subst (λ l. Contains l y) (sym (filter-true test x xs (subst (λ z. test z ≡ true) (sym here) passes))) (subst (λ z. Contains (x ∷ filter test xs) z) here (Contains-here x (filter test xs)))
    | inr there ↦ elim (cases_Bool (test x)) [
      | inl kept ↦ subst (λ l. Contains l y) (sym (filter-true test x xs kept)) (Contains-there x (filter test xs) y (Contains-filter test xs y there passes))
      | inr dropped ↦ subst (λ l. Contains l y) (sym (filter-false test x xs dropped)) (Contains-filter test xs y there passes)
    ]
  ]

  -- and nothing else
  pub Contains-from_filter : (test : A → Bool) (xs : List A) (y : A) → Contains (filter test xs) y → Contains xs y × (test y ≡ true)
  Contains-from_filter test [] y among = absurd (Contains-none y among)
  Contains-from_filter test (x ∷ xs) y among = elim (cases_Bool (test x)) [
    | inl kept ↦ elim (Contains-cases x (filter test xs) y (subst (λ l. Contains l y) (filter-true test x xs kept) among)) [
      | inl here ↦ (subst (λ z. Contains (x ∷ xs) z) here (Contains-here x xs), subst (λ z. test z ≡ true) here kept)
      | inr there ↦ let found = Contains-from_filter test xs y there in (Contains-there x xs y found.0, found.1)
    ]
    | inr dropped ↦ let found = Contains-from_filter test xs y (subst (λ l. Contains l y) (filter-false test x xs dropped) among) in (Contains-there x xs y found.0, found.1)
  ]

  -- where each passes, a filter keeps all
  pub filter-each : (test : A → Bool) (xs : List A) → ((y : A) → Contains xs y → test y ≡ true) → filter test xs ≡ xs
  filter-each test [] each = refl
  filter-each test (x ∷ xs) each = filter-true test x xs (each x (Contains-here x xs)) ∙ ap (λ l. x ∷ l) (filter-each test xs (λ y among. each y (Contains-there x xs y among)))

  -- what is found is in the list and passes
  pub find-Contains : (test : A → Bool) (xs : List A) (y : A) → find test xs ≡ Some y → Contains xs y × (test y ≡ true)
  find-Contains test [] y e = cc
  find-Contains test (x ∷ xs) y e = search (rules, (cases_Bool (test x)), some_same, (Contains-there x xs y), (find-Contains test xs y), (find-false test x xs))

-- what lists joined, a list mapped and a range contain
module _ {K A : Type 0} (f : K → List A) where
  pub Contains-flat_map : (ks : List K) (k : K) (y : A) → Contains ks k → Contains (f k) y → Contains (flat_map f ks) y
  Contains-flat_map [] k y at_key among = absurd (Contains-none k at_key)
  Contains-flat_map (j ∷ ks) k y at_key among =
      search (rules, Contains-append_left, Contains-append_right, (Contains-flat_map ks k y))

  pub Contains-from_flat_map : (ks : List K) (y : A) → Contains (flat_map f ks) y → (k : K) × Contains ks k × Contains (f k) y
  Contains-from_flat_map [] y among = absurd (Contains-none y among)
  Contains-from_flat_map (j ∷ ks) y among = elim (Contains-append_cases (f j) (flat_map f ks) y among) [
    | inl here ↦ (j, Contains-here j ks, here)
    | inr there ↦ let found = Contains-from_flat_map ks y there in (found.0, Contains-there j ks found.0 found.1, found.2)
  ]

module _ {K A : Type 0} (f : K → A) where
  pub Contains-map : (ks : List K) (k : K) → Contains ks k → Contains (map f ks) (f k)
  Contains-map [] k at_key = absurd (Contains-none k at_key)
  Contains-map (j ∷ ks) k at_key = elim (Contains-cases j ks k at_key) [
    | inl here ↦ subst (λ i. Contains (f j ∷ map f ks) (f i)) here (Contains-here (f j) (map f ks))
    | inr there ↦ Contains-there (f j) (map f ks) (f k) (Contains-map ks k there)
  ]

  pub Contains-from_map : (ks : List K) (y : A) → Contains (map f ks) y → (k : K) × Contains ks k × (f k ≡ y)
  Contains-from_map [] y among = absurd (Contains-none y among)
  Contains-from_map (j ∷ ks) y among = elim (Contains-cases (f j) (map f ks) y among) [
    | inl here ↦ (j, Contains-here j ks, here)
    | inr there ↦ let found = Contains-from_map ks y there in (found.0, Contains-there j ks found.0 found.1, found.2)
  ]

pub Contains-range : (a n k : ℕ) → a ≤ k → k < a + n → Contains (range_with_len a n) k
Contains-range a zero k low high = absurd (omega arith)
Contains-range a (suc n) k low high =
    search (rules, (cases_lt a k), (Contains-there a (range_with_len (a + 1) n) k), (Contains-range (a + 1) n k), (Contains-here a (range_with_len (a + 1) n)))

pub range-from : (a n k : ℕ) → Contains (range_with_len a n) k → (a ≤ k) × (k < a + n)
range-from a zero k among = absurd (Contains-none k among)
range-from a (suc n) k among = search (rules, (range-from (a + 1) n k))
