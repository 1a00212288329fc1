-- Key words exist where any key word leads there, are one, have fewer keys than a piece has states, and are what `least_key_word` finds.
use Rattle.std.proofs.Common.{◌≡◌, ℕ, zero, suc, ◌<◌, Bool, true, IsTrue, Option, Some, None, List, [], ◌∷◌, length, map, refl, sym, ap, subst, ◌∙◌, inl, inr, arith, rules}
use Rattle.std.specs.Prelude.{Contains, find, filter, is_some}
use Rattle.std.specs.List.{range_with_len}
use Rattle.std.specs.List.Sorted.{IsStrictlySortedBy}
use Rattle.std.specs.Ordering.{nat_cmp}
use Rattle.std.specs.declared.cmp.Ordering.TheVariants.{Less}
use Rattle.std.proofs.lemmas.Bool.{cases_Bool, cases_lt}
use Rattle.lane_board.specs.Field.{Field}
use Rattle.srs.specs.declared.placement.Placement.{Placement}
use Rattle.srs.specs.Kick.{Table}
use Rattle.srs.specs.Rising.{is_above, IsNextAbove, IsRisingListOf}
use Rattle.srs.proofs.CallerLemmas.{Contains-here, Contains-cases, Contains-none, Contains-flat_map, Contains-from_flat_map, Contains-map, Contains-from_map, Contains-range, range-from, find-true, find-false, filter-true, filter-false, rising-none, rising-cons, rising-flat_map, rising-map, rising-range, find-next_of, IsNextAbove-unique, IsRisingListOf-filter, less_is_below}
use Rattle.moves.specs.declared.key.Key.{Key}
use Rattle.moves.specs.declared.key.DropMode.{DropMode}
use Rattle.moves.specs.Keys.{all_keys, allows}
use Rattle.moves.specs.Step.{step_of}
use Rattle.moves.specs.Leads.{spawned}
use Rattle.moves.specs.Place.{LeadsToRest, IsPlace}
use Rattle.moves.specs.PlaceTest.{leads_to_rest}
use Rattle.moves.proofs.CallerLemmas.{IsFreeState, leads_to_rest-decides, from_tests, short_keys, spawned-free, step_is_finite, to_tests}
use Rattle.moves.specs.States.{state_code}
use Rattle.key_path.specs.KeyWords.{key_cmp, key_word_cmp, key_words_of, key_words_below}
use Rattle.key_path.specs.LeastKeyWord.{IsLeastKeyWord, least_key_word}
use Rattle.key_path.proofs.WordLemmas.{key_index-small, shorter_before, not_both, more_first, first_key, word_cmp-total, word_cmp-antisymmetric}

-- where a key word leads there, so does one with fewer keys than there are states
pub few_keys : (table : Table) (F : Field) (mode : DropMode) (target : Placement) (word : List Key) → LeadsToRest table F mode word target →
    (other : List Key) × LeadsToRest table F mode other target × (length other < 920)
few_keys table F mode target word leads =
    let way = to_tests table F mode word target leads in
    let few = short_keys (step_of table F) (IsFreeState F target.piece) state_code 920 (step_is_finite table F target.piece) (allows mode) (spawned F target.piece) way.state word (spawned-free F target.piece) way.leads in
    (few.keys, from_tests table F mode few.keys target (record { state = way.state; leads = few.leads; rests = way.rests }), few.few)

-- so a least key word has fewer
pub least_is_short : (table : Table) (F : Field) (mode : DropMode) (target : Placement) (word : List Key) → IsLeastKeyWord table F mode target (Some word) → length word < 920
least_is_short table F mode target word least = search (rules, few_keys, cases_lt, shorter_before)

-- the least key word is one, or none
pub key_word_unique : (table : Table) (F : Field) (mode : DropMode) (target : Placement) (a b : Option (List Key)) → IsLeastKeyWord table F mode target a → IsLeastKeyWord table F mode target b → a ≡ b
key_word_unique table F mode target a b = IsNextAbove-unique key_word_cmp word_cmp-total word_cmp-antisymmetric (λ word. LeadsToRest table F mode word target) None a b

-- the lists of key words have all key words of their lengths, and rise
has_length : (n : ℕ) (word : List Key) → Contains (key_words_of n) word → length word ≡ n
unfolding key_words_of
has_length zero word among = elim (Contains-cases [] [] word among) [ inl e ↦ sym (ap (λ (w : List Key). length w) e) | inr none ↦ absurd (Contains-none word none) ]
has_length (suc n) word among =
    let key = Contains-from_flat_map (λ key. map (λ word. key ∷ word) (key_words_of n)) all_keys word among in
    let rest = Contains-from_map (λ word. key.0 ∷ word) (key_words_of n) word key.2 in
    sym (ap (λ (w : List Key). length w) rest.2) ∙ ap suc (has_length n rest.0 rest.1)

among_keys : (key : Key) → Contains all_keys key
among_keys key = search (rules, (key_index-small key))

has_word : (word : List Key) → Contains (key_words_of (length word)) word
unfolding key_words_of
has_word [] = Contains-here [] []
has_word (key ∷ word) = Contains-flat_map (λ key. map (λ word. key ∷ word) (key_words_of (length word))) all_keys key (key ∷ word) (among_keys key) (Contains-map (λ word. key ∷ word) (key_words_of (length word)) word (has_word word))

all_keys-rising : IsStrictlySortedBy key_cmp all_keys
unfolding IsStrictlySortedBy
all_keys-rising = ((refl, (refl, (refl, (refl, tt)))), ((refl, (refl, (refl, tt))), ((refl, (refl, tt)), ((refl, tt), (tt, tt)))))

words_of-rising : (n : ℕ) → IsStrictlySortedBy key_word_cmp (key_words_of n)
unfolding key_words_of
words_of-rising zero = rising-cons key_word_cmp [] [] (λ y among. absurd (Contains-none y among)) (rising-none key_word_cmp)
words_of-rising (suc n) =
    rising-flat_map key_cmp key_word_cmp (λ key. map (λ word. key ∷ word) (key_words_of n)) all_keys all_keys-rising
    (λ key. rising-map key_word_cmp key_word_cmp (λ word. key ∷ word) (key_words_of n) (words_of-rising n) (λ v w less. more_first key v w less))
    by_first
  where
    by_first : (j k : Key) → key_cmp j k ≡ Less → (x y : List Key) → Contains (map (λ word. j ∷ word) (key_words_of n)) x → Contains (map (λ word. k ∷ word) (key_words_of n)) y → key_word_cmp x y ≡ Less
    by_first j k less x y first second =
        let v = Contains-from_map (λ word. j ∷ word) (key_words_of n) x first in
        let w = Contains-from_map (λ word. k ∷ word) (key_words_of n) y second in
        subst (λ x. key_word_cmp x y ≡ Less) v.2 (subst (λ y. key_word_cmp (j ∷ v.0) y ≡ Less) w.2
        (first_key j k v.0 w.0 less (has_length n v.0 v.1 ∙ sym (has_length n w.0 w.1))))

words_below-list : (n : ℕ) → IsRisingListOf key_word_cmp (λ word. length word < n) (key_words_below n)
unfolding key_words_below
words_below-list n = record {
  rising = rising-flat_map nat_cmp key_word_cmp key_words_of (range_with_len 0 n) (rising-range 0 n) words_of-rising
      (λ j k less x y first second. shorter_before x y (omega (arith, has_length j x first, has_length k y second, less_is_below j k less)));
  members = λ word. (
    λ among. let n' = Contains-from_flat_map key_words_of (range_with_len 0 n) word among in omega (arith, has_length n'.0 word n'.2, (range-from 0 n n'.0 n'.1).1),
    λ few. Contains-flat_map key_words_of (range_with_len 0 n) (length word) word (Contains-range 0 n (length word) (omega arith) (omega (arith, few))) (has_word word),
  );
}

-- the first that passes is the first of those that pass
find_filter : (test : List Key → Bool) (words : List (List Key)) → find (is_above key_word_cmp None) (filter test words) ≡ find test words
find_filter test [] = refl
find_filter test (word ∷ words) =
    search (rules, cases_Bool, filter-true, find-true, filter-false, find-false, find_filter test words)

-- a key word of fewer keys than there are states that leads there
abbrev IsShortWay : Table → Field → DropMode → Placement → List Key → Type 0
IsShortWay table F mode target word = (length word < 920) × IsTrue (leads_to_rest table F mode target word)

-- the function finds the least key word
pub key_word-is : (table : Table) (F : Field) (mode : DropMode) (target : Placement) → IsLeastKeyWord table F mode target (least_key_word table F mode target)
unfolding least_key_word
key_word-is table F mode target =
    over (find (leads_to_rest table F mode target) (key_words_below 920))
    (subst (IsNextAbove key_word_cmp (IsShortWay table F mode target) None) (find_filter (leads_to_rest table F mode target) (key_words_below 920))
    (find-next_of key_word_cmp word_cmp-total (IsShortWay table F mode target) None (filter (leads_to_rest table F mode target) (key_words_below 920))
    (IsRisingListOf-filter key_word_cmp word_cmp-total (λ word. length word < 920) (leads_to_rest table F mode target) (key_words_below 920) (words_below-list 920))))
  where
    over : (a : Option (List Key)) → IsNextAbove key_word_cmp (IsShortWay table F mode target) None a → IsLeastKeyWord table F mode target a
    over None next = record {
      none = λ word leads above.
          let few = few_keys table F mode target word leads in
          next.none few.0 (few.2, (leads_to_rest-decides table F mode target few.0).1 few.1) refl;
    }
    over (Some word) next = search (rules, (leads_to_rest-decides table F mode target word), cases_lt, next.least, (leads_to_rest-decides table F mode target), (not_both word), (shorter_before word))

pub is_key_word : (table : Table) (F : Field) (mode : DropMode) (target : Placement) (a : Option (List Key)) → IsLeastKeyWord table F mode target a → a ≡ least_key_word table F mode target
is_key_word table F mode target a is = key_word_unique table F mode target a (least_key_word table F mode target) is (key_word-is table F mode target)

-- what the function names is the least key word
pub named_is_least : (table : Table) (F : Field) (mode : DropMode) (target : Placement) (a : Option (List Key)) → a ≡ least_key_word table F mode target → IsLeastKeyWord table F mode target a
named_is_least table F mode target a named = subst (IsLeastKeyWord table F mode target) (sym named) (key_word-is table F mode target)

-- each placement that keys reach has a key word
some_word : (table : Table) (F : Field) (mode : DropMode) (target : Placement) (a : Option (List Key)) → IsLeastKeyWord table F mode target a → IsPlace table F mode target → is_some a ≡ true
some_word table F mode target None is place = absurd (is.none place.keys place.led_to refl)
some_word table F mode target (Some word) is place = refl

pub place_has_word : (table : Table) (F : Field) (mode : DropMode) (target : Placement) → IsPlace table F mode target → is_some (least_key_word table F mode target) ≡ true
place_has_word table F mode target place = some_word table F mode target (least_key_word table F mode target) (key_word-is table F mode target) place
