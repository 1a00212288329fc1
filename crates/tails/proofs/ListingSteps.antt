-- Listing the tails of one state after the other.
use Rattle.std.proofs.Common.{◌≡◌, ◌⊎◌, ℕ, zero, suc, ◌+◌, ◌<◌, ◌≤◌, ◌++◌, List, [], ◌∷◌, Option, Some, get_or, length, refl, ap, sym, subst, ◌∙◌, inl, inr, arith, set, length-append, length-set}
use Rattle.std.specs.List.{slice_get}
use Rattle.std.proofs.lemmas.Bool.{cases_eq, cases_lt}
use Rattle.std.proofs.lemmas.List.{get_or_append_left, get_or_push}
use Rattle.srs.proofs.CallerLemmas.{some_same}
use Rattle.queue_pattern.specs.declared.element.Element.{Element}
use Rattle.tails.specs.declared.lists.Lists.{Lists}
use Rattle.tails.specs.declared.states.State.{State}
use Rattle.tails.specs.Listings.{IsListing}
use Rattle.tails.specs.Lists.{AreListed, number_at}
use Rattle.tails.specs.States.{state_at}
use Rattle.tails.proofs.ListLemmas.{state-read}

-- the numbers of the first tails of a state stand from a place on
pub record Listing (elements : List Element) (states : List State) (lists : Lists) (number start place : ℕ) : Type 0 where
  pub listing : IsListing elements states lists
  pub size : length lists.numbers.items ≡ start + place
  pub so_far : (k : ℕ) → k < place → get_or lists.numbers.items (start + k) 0 ≡ number_at elements (state_at states number) k

-- numbers more change nothing that is listed
more-numbers : (elements : List Element) (states : List State) (lists more : Lists) (rest : List ℕ) → AreListed elements states lists
    → more.starts ≡ lists.starts → more.numbers.items ≡ lists.numbers.items ++ rest → AreListed elements states more
more-numbers elements states lists more rest listed starts_are numbers_are =
    let same : (number start : ℕ) → slice_get more.starts.items number ≡ Some (Some start) → slice_get lists.starts.items number ≡ Some (Some start) =
    λ number start is. subst (λ v. slice_get (v.items) number ≡ Some (Some start)) starts_are is in
    let longer = ap length numbers_are ∙ length-append lists.numbers.items rest in
    record {
      size = ap (λ v. length (v.items)) starts_are ∙ listed.size;
      each = λ number start place is there. omega (arith, longer, listed.each number start place (same number start is) there);
      numbers = λ number start place is there.
          ap (λ l. get_or l (start + place) 0) numbers_are
          ∙ get_or_append_left lists.numbers.items rest 0 (start + place) (listed.each number start place (same number start is) there)
          ∙ listed.numbers number start place (same number start is) there;
    }

pub listing-more : (elements : List Element) (states : List State) (lists more : Lists) (number start place value : ℕ) → Listing elements states lists number start place
    → more.starts ≡ lists.starts → more.numbers.items ≡ lists.numbers.items ++ value ∷ [] → value ≡ number_at elements (state_at states number) place
    → Listing elements states more number start (place + 1)
listing-more elements states lists more number start place value so_far starts_are numbers_are value_is =
    let old = lists.numbers.items in
    record {
      listing = record { are = so_far.listing.are; listed = more-numbers elements states lists more (value ∷ []) so_far.listing.listed starts_are numbers_are };
      size = ap length numbers_are ∙ length-append old (value ∷ []) ∙ omega (arith, so_far.size);
      so_far = λ k within. elim (cases_lt k place) [
        | inl before ↦
            ap (λ l. get_or l (start + k) 0) numbers_are ∙ get_or_append_left old (value ∷ []) 0 (start + k) (omega (arith, before, so_far.size)) ∙ so_far.so_far k before
        | inr past ↦
            let at : place ≡ k = omega (arith, within, past) in
            ap (λ l. get_or l (start + k) 0) numbers_are ∙ get_or_push old value 0 (start + k) (omega (arith, at, so_far.size)) ∙ value_is
            ∙ ap (number_at elements (state_at states number)) at
      ];
    }

slice_get-set_same : {A : Type 0} (xs : List A) (i : ℕ) (x : A) → i < length xs → slice_get (set xs i x) i ≡ Some x
slice_get-set_same [] i x within = absurd (omega (arith, within))
slice_get-set_same (y ∷ xs) zero x within = refl
slice_get-set_same (y ∷ xs) (suc i) x within = slice_get-set_same xs i x (omega (arith, within))

slice_get-set_other : {A : Type 0} (xs : List A) (i j : ℕ) (x : A) → (j ≡ i → ⊥) → slice_get (set xs i x) j ≡ slice_get xs j
slice_get-set_other [] i j x other = refl
slice_get-set_other (y ∷ xs) zero zero x other = absurd (other refl)
slice_get-set_other (y ∷ xs) zero (suc j) x other = refl
slice_get-set_other (y ∷ xs) (suc i) zero x other = refl
slice_get-set_other (y ∷ xs) (suc i) (suc j) x other = slice_get-set_other xs i j x (λ same. other (ap suc same))

-- all tails of a state are listed
pub listing-done : (elements : List Element) (states : List State) (lists more : Lists) (number start place : ℕ) → Listing elements states lists number start place
    → number < length states → (state_at states number).count ≤ place
    → more.starts.items ≡ set lists.starts.items number (Some start) → more.numbers ≡ lists.numbers → IsListing elements states more
listing-done elements states lists more number start place so_far within all starts_are numbers_are =
    let listed = so_far.listing.listed in
    let old = lists.starts.items in
    let read : (n first : ℕ) → slice_get more.starts.items n ≡ Some (Some first) → slice_get (set old number (Some start)) n ≡ Some (Some first) =
    λ n first is. subst (λ l. slice_get l n ≡ Some (Some first)) starts_are is in
    let either : (n first : ℕ) → slice_get more.starts.items n ≡ Some (Some first) → ((n ≡ number) × (start ≡ first)) ⊎ (slice_get old n ≡ Some (Some first)) =
    λ n first is. set-cases old number n start first (omega (arith, within, listed.size)) (read n first is) in
    record {
      are = so_far.listing.are;
      listed = record {
        size = ap length starts_are ∙ length-set old number (Some start) ∙ listed.size;
        each = λ n first k is there. elim (either n first is) [
          | inl here ↦
              let below : k < (state_at states number).count = subst (λ m. k < (state_at states m).count) here.0 there in
              omega (arith, here.1, below, all, so_far.size, ap (λ v. length (v.items)) numbers_are)
          | inr other ↦ omega (arith, listed.each n first k other there, ap (λ v. length (v.items)) numbers_are)
        ];
        numbers = λ n first k is there. elim (either n first is) [
          | inl here ↦
              let below : k < (state_at states number).count = subst (λ m. k < (state_at states m).count) here.0 there in
              ap (λ v. get_or (v.items) (first + k) 0) numbers_are ∙ ap (λ m. get_or lists.numbers.items (m + k) 0) (sym here.1)
              ∙ so_far.so_far k (omega (arith, below, all)) ∙ ap (λ m. number_at elements (state_at states m) k) (sym here.0)
          | inr other ↦ ap (λ v. get_or (v.items) (first + k) 0) numbers_are ∙ listed.numbers n first k other there
        ];
      };
    }
  where
    set-cases : (old : List (Option ℕ)) (number n start first : ℕ) → number < length old → slice_get (set old number (Some start)) n ≡ Some (Some first)
        → ((n ≡ number) × (start ≡ first)) ⊎ (slice_get old n ≡ Some (Some first))
    set-cases old number n start first within is = elim (cases_eq n number) [
      | inl same ↦ inl (same, some_same (some_same (sym (slice_get-set_same old number (Some start) within) ∙ ap (slice_get (set old number (Some start))) (sym same) ∙ is)))
      | inr other ↦ inr (sym (slice_get-set_other old number n (Some start) other) ∙ is)
    ]

-- the count that is read is the state's
pub below-count : (states : List State) (n number place : ℕ) (d : State) → n ≡ number → number < length states → place < (get_or states n d).count
    → place < (state_at states number).count
below-count states n number place d is within below =
    let count = ap (λ (s : State). s.count) (ap (λ m. get_or states m d) is ∙ state-read states number d within) in
    omega (arith, count, below)

pub past-count : (states : List State) (n number place : ℕ) (d : State) → n ≡ number → number < length states → (get_or states n d).count ≤ place
    → (state_at states number).count ≤ place
past-count states n number place d is within past =
    let count = ap (λ (s : State). s.count) (ap (λ m. get_or states m d) is ∙ state-read states number d within) in
    omega (arith, count, past)
