-- Strictly rising lists, and the least of some things above a bound, in a total order in which only equal things tie.
use Rattle.std.proofs.Common.{◌≡◌, ◌≢◌, ◌↔◌, ℕ, zero, suc, ◌+◌, ◌<◌, Bool, true, false, Decides, IsTrue, List, [], ◌∷◌, ◌++◌, map, refl, sym, ap, subst, ◌∙◌, inl, inr, arith, lt-ltb, rules}
use Rattle.std.specs.Prelude.{Option, Some, None, filter, find, Contains}
use Rattle.std.specs.List.{flat_map, range_with_len}
use Rattle.std.specs.List.Sorted.{IsStrictlySortedBy}
use Rattle.std.specs.Ordering.{is_lt, nat_cmp}
use Rattle.std.specs.Cmp.{IsTotalOrder, tied_itself}
use Rattle.std.specs.FinMap.{IsAntisymmetric}
use Rattle.std.specs.declared.cmp.Ordering.{Ordering}
use Rattle.std.specs.declared.cmp.Ordering.TheVariants.{Less, Equal}
use Rattle.std.proofs.lemmas.Bool.{cases_Bool}
use Rattle.std.proofs.lemmas.List.Elements.{Contains-append_cases}
use Rattle.std.proofs.lemmas.List.Kept.{IsStrictlySortedBy-filter}
use Rattle.srs.specs.Rising.{is_before, is_above, IsLeastAbove, IsNextAbove, IsRisingListOf}
use Rattle.srs.proofs.MemberLemmas.{Contains-cases, Contains-filter, Contains-from_filter, Contains-from_flat_map, Contains-from_map, Contains-here, Contains-none, Contains-there, each-contained, each-from_contained, filter-each, filter-false, filter-true, find-Contains, find-false, find-true, range-from, some_same}

pub below_is_less : (m n : ℕ) → m < n → nat_cmp m n ≡ Less
below_is_less m n below = rw (lt-ltb m n below) refl

-- the first of a rising list comes before the others
pub rising-first : {A : Type 0} (cmp : A → A → Ordering) (x : A) (xs : List A) → IsStrictlySortedBy cmp (x ∷ xs) → (y : A) → Contains xs y → cmp x y ≡ Less
unfolding IsStrictlySortedBy
rising-first cmp x xs rising y among = each-contained (λ y. cmp x y ≡ Less) xs y rising.0 among

pub rising-rest : {A : Type 0} (cmp : A → A → Ordering) (x : A) (xs : List A) → IsStrictlySortedBy cmp (x ∷ xs) → IsStrictlySortedBy cmp xs
unfolding IsStrictlySortedBy
rising-rest cmp x xs rising = rising.1

pub rising-none : {A : Type 0} (cmp : A → A → Ordering) → IsStrictlySortedBy cmp []
unfolding IsStrictlySortedBy
rising-none cmp = tt

pub rising-cons : {A : Type 0} (cmp : A → A → Ordering) (x : A) (xs : List A) → ((y : A) → Contains xs y → cmp x y ≡ Less) → IsStrictlySortedBy cmp xs → IsStrictlySortedBy cmp (x ∷ xs)
unfolding IsStrictlySortedBy
rising-cons cmp x xs first rest = (each-from_contained (λ y. cmp x y ≡ Less) xs first, rest)

-- two rising lists make one where all of the first come before all of the second
pub rising-append : {A : Type 0} (cmp : A → A → Ordering) (xs ys : List A) → IsStrictlySortedBy cmp xs → IsStrictlySortedBy cmp ys → ((x y : A) → Contains xs x → Contains ys y → cmp x y ≡ Less) → IsStrictlySortedBy cmp (xs ++ ys)
rising-append cmp [] ys first second before = second
rising-append {A = A} cmp (x ∷ xs) ys first second before =
    search (rules, rising-cons, rising-rest, Contains-there, each, (rising-append cmp xs ys (rising-rest cmp x xs first) second (λ z y among there. before z y (Contains-there x xs z among) there)))
  where
    each : (z : A) → Contains (xs ++ ys) z → cmp x z ≡ Less
    each z among = search (rules, (Contains-append_cases xs ys z among), (rising-first cmp x xs first z), (Contains-here x xs))

-- lists joined in the order of their keys, a list mapped in order, and a range rise
pub rising-flat_map : {K A : Type 0} (key_cmp : K → K → Ordering) (cmp : A → A → Ordering) (f : K → List A) (ks : List K) → IsStrictlySortedBy key_cmp ks → ((k : K) → IsStrictlySortedBy cmp (f k)) → ((j k : K) → key_cmp j k ≡ Less → (x y : A) → Contains (f j) x → Contains (f k) y → cmp x y ≡ Less) → IsStrictlySortedBy cmp (flat_map f ks)
rising-flat_map key_cmp cmp f [] keys each before = rising-none cmp
rising-flat_map key_cmp cmp f (k ∷ ks) keys each before =
    rising-append cmp (f k) (flat_map f ks) (each k) (rising-flat_map key_cmp cmp f ks (rising-rest key_cmp k ks keys) each before)
    (λ x y first among. let found = Contains-from_flat_map f ks y among in before k found.0 (rising-first key_cmp k ks keys found.0 found.1) x y first found.2)

pub rising-map : {K A : Type 0} (key_cmp : K → K → Ordering) (cmp : A → A → Ordering) (f : K → A) (ks : List K) → IsStrictlySortedBy key_cmp ks → ((j k : K) → key_cmp j k ≡ Less → cmp (f j) (f k) ≡ Less) → IsStrictlySortedBy cmp (map f ks)
rising-map key_cmp cmp f [] keys before = rising-none cmp
rising-map key_cmp cmp f (k ∷ ks) keys before =
    rising-cons cmp (f k) (map f ks)
    (λ y among. let found = Contains-from_map f ks y among in subst (λ z. cmp (f k) z ≡ Less) found.2 (before k found.0 (rising-first key_cmp k ks keys found.0 found.1)))
    (rising-map key_cmp cmp f ks (rising-rest key_cmp k ks keys) before)

pub rising-range : (a n : ℕ) → IsStrictlySortedBy nat_cmp (range_with_len a n)
rising-range a zero = rising-none nat_cmp
rising-range a (suc n) = rising-cons nat_cmp a (range_with_len (a + 1) n) (λ y among. let within = range-from (a + 1) n y among in below_is_less a y (omega (arith, within.0))) (rising-range (a + 1) n)

pub is_before-decides : {A : Type 0} (cmp : A → A → Ordering) (x y : A) → Decides (is_before cmp x y) (cmp x y ≡ Less)
is_before-decides cmp x y = search rules

module _ {A : Type 0} (cmp : A → A → Ordering) (total : IsTotalOrder cmp) where
  not_itself : (x : A) → cmp x x ≢ Less
  not_itself x e = let tied : cmp x x ≡ Equal = tied_itself total x in cc

  not_both_ways : (x y : A) → cmp x y ≡ Less → cmp y x ≢ Less
  not_both_ways x y e f = not_itself x (total.trans x y x e f)

  above_bound : (bound x : A) → is_above cmp (Some bound) x ≡ true → cmp bound x ≡ Less
  above_bound bound x above = (is_before-decides cmp bound x).0 above

  -- what comes after something above the bound is above the bound
  pub is_above-later : (bound : Option A) (x y : A) → is_above cmp bound x ≡ true → cmp x y ≡ Less → is_above cmp bound y ≡ true
  is_above-later bound x y above later = search rules

  not_above-itself : (x : A) → is_above cmp (Some x) x ≡ false
  not_above-itself x = ap is_lt (tied_itself total x)

  -- the search of a rising list finds the next of its elements
  later_next : (bound : Option A) (x : A) (xs : List A) (found : Option A) → is_above cmp bound x ≡ false → IsNextAbove cmp (Contains xs) bound found → IsNextAbove cmp (Contains (x ∷ xs)) bound found
  later_next bound x xs found under next = search (rules, Contains-cases, Contains-there)

  first_next : (bound : Option A) (x : A) (xs : List A) → IsStrictlySortedBy cmp (x ∷ xs) → is_above cmp bound x ≡ true → IsLeastAbove cmp (Contains (x ∷ xs)) bound x
  first_next bound x xs rising above = search (rules, (Contains-here x xs), (Contains-cases x xs), (not_itself x), (not_both_ways x), (rising-first cmp x xs rising))

  pub find-next : (bound : Option A) (xs : List A) → IsStrictlySortedBy cmp xs → IsNextAbove cmp (Contains xs) bound (find (is_above cmp bound) xs)
  find-next bound [] rising = record { none = λ y among above. Contains-none y among }
  find-next bound (x ∷ xs) rising =
      search (rules, (cases_Bool (is_above cmp bound x)), (find-true (is_above cmp bound) x xs), (first_next bound x xs rising), (find-false (is_above cmp bound) x xs), (later_next bound x xs (find (is_above cmp bound) xs)), (find-next bound xs (rising-rest cmp x xs rising)))

  -- of some things the next is determined
  pub IsNextAbove-unique : IsAntisymmetric cmp → (IsMember : A → Type 0) (bound : Option A) (a b : Option A) → IsNextAbove cmp IsMember bound a → IsNextAbove cmp IsMember bound b → a ≡ b
  IsNextAbove-unique same bound h2 b h4 first second = search rules

  -- the rising list of some things, searched, gives the next of them
  pub find-next_of : (IsMember : A → Type 0) (bound : Option A) (xs : List A) → IsRisingListOf cmp IsMember xs → IsNextAbove cmp IsMember bound (find (is_above cmp bound) xs)
  find-next_of M bound xs list = search (rules, (find-next bound xs list.rising))

  -- what is above the bound is the next, and what is above the next
  pub filter_above-next : (bound : Option A) (xs : List A) (a : A) → IsStrictlySortedBy cmp xs → find (is_above cmp bound) xs ≡ Some a → filter (is_above cmp bound) xs ≡ a ∷ filter (is_above cmp (Some a)) xs
  filter_above-next bound [] a rising e = cc
  filter_above-next bound (x ∷ xs) a rising e = elim (cases_Bool (is_above cmp bound x)) [
    | inl above ↦
        let here : x ≡ a = some_same (sym (find-true (is_above cmp bound) x xs above) ∙ e) in
        subst (λ b. filter (is_above cmp bound) (x ∷ xs) ≡ b ∷ filter (is_above cmp (Some b)) (x ∷ xs)) here
        (filter-true (is_above cmp bound) x xs above
        ∙ ap (λ l. x ∷ l)
        (filter-each (is_above cmp bound) xs (λ y among. is_above-later bound x y above (rising-first cmp x xs rising y among))
        ∙ sym (filter-each (is_above cmp (Some x)) xs (λ y among. ap is_lt (rising-first cmp x xs rising y among)))
        ∙ sym (filter-false (is_above cmp (Some x)) x xs (not_above-itself x))))
    | inr under ↦
        search (rules, find-false, find-Contains, filter-false, rising-rest, rising-first, (filter_above-next bound xs a (rising-rest cmp x xs rising)))
  ]

  pub filter_above-none : (bound : Option A) (xs : List A) → find (is_above cmp bound) xs ≡ None → filter (is_above cmp bound) xs ≡ []
  filter_above-none bound [] e = refl
  filter_above-none bound (x ∷ xs) e =
      search (rules, cases_Bool, find-true, filter-false, find-false, (filter_above-none bound xs))

  -- a rising list is determined by what it contains
  pub rising-same : (xs ys : List A) → IsStrictlySortedBy cmp xs → IsStrictlySortedBy cmp ys → ((z : A) → Contains xs z ↔ Contains ys z) → xs ≡ ys
  rising-same [] [] first second alike = refl
  rising-same [] (y ∷ ys) first second alike = absurd (Contains-none y ((alike y).1 (Contains-here y ys)))
  rising-same (x ∷ xs) [] first second alike = absurd (Contains-none x ((alike x).0 (Contains-here x xs)))
  rising-same (x ∷ xs) (y ∷ ys) first second alike =
      search (rules, rising-rest, heads, forth, back, (rising-same xs ys (rising-rest cmp x xs first) (rising-rest cmp y ys second)))
    where
      heads : x ≡ y
      heads = search (rules, (Contains-cases y ys x ((alike x).0 (Contains-here x xs))), (Contains-cases x xs y ((alike y).1 (Contains-here y ys))), (not_both_ways x y), (rising-first cmp x xs first y), (rising-first cmp y ys second x))

      forth : (z : A) → Contains xs z → Contains ys z
      forth z among = elim (Contains-cases y ys z ((alike z).0 (Contains-there x xs z among))) [
        | inl here ↦ absurd (not_itself z (subst (λ w. cmp w z ≡ Less) (heads ∙ here) (rising-first cmp x xs first z among)))
        | inr there ↦ there
      ]

      back : (z : A) → Contains ys z → Contains xs z
      back z among = elim (Contains-cases x xs z ((alike z).1 (Contains-there y ys z among))) [
        | inl here ↦ absurd (not_itself z (subst (λ w. cmp w z ≡ Less) (sym heads ∙ here) (rising-first cmp y ys second z among)))
        | inr there ↦ there
      ]

  pub IsRisingListOf-unique : (IsMember : A → Type 0) (xs ys : List A) → IsRisingListOf cmp IsMember xs → IsRisingListOf cmp IsMember ys → xs ≡ ys
  IsRisingListOf-unique M xs ys first second =
      rising-same xs ys first.rising second.rising
      (λ z. (λ among. (second.members z).1 ((first.members z).0 among), λ among. (first.members z).1 ((second.members z).0 among)))

  -- those that pass a test
  pub IsRisingListOf-filter : (IsMember : A → Type 0) (test : A → Bool) (xs : List A) → IsRisingListOf cmp IsMember xs → IsRisingListOf cmp (λ x. IsMember x × IsTrue (test x)) (filter test xs)
  IsRisingListOf-filter M test xs list = record {
    rising = IsStrictlySortedBy-filter cmp test xs list.rising;
    members = λ x. (
      λ among. let found = Contains-from_filter test xs x among in ((list.members x).0 found.0, found.1),
      λ both. Contains-filter test xs x ((list.members x).1 both.0) both.1,
    );
  }
