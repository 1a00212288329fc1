-- Kept lists, and the numbers of the queues that permit one.
use Rattle.std.proofs.lemmas.Grind.{common_steps}
use Rattle.std.proofs.Common.{◌≡◌, ◌⊎◌, ◌↔◌, ℕ, zero, suc, ◌+◌, ◌-◌, ◌<◌, ◌≤◌, Bool, true, false, IsTrue, List, [], ◌∷◌, ◌++◌, Contains, Option, Some, filter, length, map, sum_by, take, drop, take-append-drop, slice_get, get_or, refl, sym, ap, subst, ◌∙◌, inl, inr, arith, rules}
use Rattle.std.specs.List.{flat_map, range_with_len}
use Rattle.std.specs.Ordering.{nat_cmp}
use Rattle.std.proofs.lemmas.Bool.{cases_Bool, cases_eq, both_ways}
use Rattle.std.proofs.lemmas.List.{map-append}
use Rattle.std.proofs.lemmas.List.Elements.{Contains-append_cases, Contains-append_left, Contains-push}
use Rattle.std.proofs.lemmas.List.Kept.{IsStrictlySortedBy-filter}
use Rattle.std.proofs.lemmas.List.Sums.{sum_by-append, sum_by-cons}
use Rattle.std.proofs.lemmas.Option.{get_or_from_slice_get, slice_get-get_or, slice_get_within}
use Rattle.srs.proofs.CallerLemmas.{Contains-cases, Contains-filter, Contains-from_filter, Contains-none, Contains-range, filter-false, filter-true, range-from, rising-range, some_passes, any_passes}
use Rattle.arrayvec.specs.ArrayVec.{ArrayVec}
use Rattle.srs.specs.declared.piece.Piece.{Piece}
use Rattle.srs.specs.declared.placement.Placement.{Placement}
use Rattle.queue_pattern.specs.Pattern.{elements_of}
use Rattle.queue_pattern.specs.Queues.{queues}
use Rattle.hold_queue.specs.declared.hold.Hold.{Hold}
use Rattle.hold_queue.specs.Permits.{Permits, permits}
use Rattle.problem.specs.declared.problem.Problem.{Problem}
use Rattle.problem.specs.Solution.{PlaysIn, pieces_of}
use Rattle.cover.specs.Covered.{Adds, IsCovered, IsCoveredList, IsLeastFrom, IsPermitted, Keeps}
use Rattle.queue_lines.specs.Lines.{queue_form}
use Rattle.pc_cover.specs.Lines.{queues_form}
use Rattle.pc_cover.specs.Sequences.{listed_placements}
use Rattle.pc_cover.specs.Covering.{AreKinds, KeepsKindsOf, numbers_from, permits_one}

-- ---- what is kept

in_kept : {A : Type 0} (old new : List A) (item other : A) → Keeps old new item → Contains old other → Contains new other
in_kept old new item other (inl there) among = subst (λ l. Contains l other) (sym there.1) among
in_kept old new item other (inr absent) among = subst (λ l. Contains l other) (sym absent.1) (Contains-append_left old (item ∷ []) other among)

item_kept : {A : Type 0} (old new : List A) (item : A) → Keeps old new item → Contains new item
item_kept old new item (inl there) = subst (λ l. Contains l item) (sym there.1) there.0
item_kept old new item (inr absent) = subst (λ l. Contains l item) (sym absent.1) (Contains-push old item)

last_cases : {A : Type 0} (old : List A) (item other : A) → Contains (old ++ item ∷ []) other → Contains old other ⊎ (other ≡ item)
last_cases old item other among = grind (arith, common_steps, Contains-append_cases, Contains-cases, Contains-none)

kept_cases : {A : Type 0} (old new : List A) (item other : A) → Keeps old new item → Contains new other → Contains old other ⊎ (other ≡ item)
kept_cases old new item other (inl there) among = inl (subst (λ l. Contains l other) there.1 among)
kept_cases old new item other (inr absent) among = last_cases old item other (subst (λ l. Contains l other) absent.1 among)

module _ (problem : Problem) (old new : List (List Piece)) (before : List (List Placement)) (sequence : List Placement) (so_far : KeepsKindsOf problem old before) where
  wider : (kinds : List Piece) → AreKinds problem before kinds → AreKinds problem (before ++ sequence ∷ []) kinds
  wider kinds are = record { sequence = are.sequence; given = Contains-append_left before (sequence ∷ []) are.sequence are.given; plays = are.plays; are = are.are }

  pub kinds-kept : PlaysIn problem sequence → Keeps old new (pieces_of sequence) → KeepsKindsOf problem new (before ++ sequence ∷ [])
  kinds-kept plays keeps = record {
    each = λ kinds. (
      λ among. elim (kept_cases old new (pieces_of sequence) kinds keeps among) [
        | inl known ↦ wider kinds ((so_far.each kinds).0 known)
        | inr is ↦ record { sequence = sequence; given = Contains-push before sequence; plays = plays; are = sym is }
      ],
      λ are. elim (last_cases before sequence are.sequence are.given) [
        | inl known ↦ in_kept old new (pieces_of sequence) kinds keeps ((so_far.each kinds).1 (record { sequence = are.sequence; given = known; plays = are.plays; are = are.are }))
        | inr is ↦ subst (Contains new) (sym (ap (λ s. pieces_of s) is) ∙ are.are) (item_kept old new (pieces_of sequence) keeps)
      ],
    );
  }

  pub kinds-passed : (PlaysIn problem sequence → ⊥) → new ≡ old → KeepsKindsOf problem new (before ++ sequence ∷ [])
  kinds-passed none same = record {
    each = λ kinds. (
      λ among. wider kinds ((so_far.each kinds).0 (subst (λ l. Contains l kinds) same among)),
      λ are. elim (last_cases before sequence are.sequence are.given) [
        | inl known ↦ subst (λ l. Contains l kinds) (sym same) ((so_far.each kinds).1 (record { sequence = are.sequence; given = known; plays = are.plays; are = are.are }))
        | inr is ↦ absurd (none (subst (PlaysIn problem) is are.plays))
      ],
    );
  }

  pub kinds-added : (plays : Bool) → IsTrue plays ↔ PlaysIn problem sequence → Adds plays old new (pieces_of sequence) → KeepsKindsOf problem new (before ++ sequence ∷ [])
  kinds-added true decides adds = kinds-kept (decides.0 refl) adds
  kinds-added false decides adds = kinds-passed (λ plays. both_ways false refl (decides.1 plays)) adds

-- ---- a test of a list, and of a range

range-next : (test : ℕ → Bool) (from len number : ℕ) → from ≤ number → number < from + len → test number ≡ true → ((k : ℕ) → from ≤ k → k < number → test k ≡ false)
    → filter test (range_with_len from len) ≡ number ∷ filter test (range_with_len (number + 1) (from + len - (number + 1)))
range-next test from zero number above below passes none = absurd (omega arith)
range-next test from (suc len) number above below passes none =
    search (rules, (cases_eq from number), (filter-true test from (range_with_len (from + 1) len)), (filter-false test from (range_with_len (from + 1) len)), (range-next test (from + 1) len number))

range-none : (test : ℕ → Bool) (from len : ℕ) → ((k : ℕ) → from ≤ k → k < from + len → test k ≡ false) → filter test (range_with_len from len) ≡ []
range-none test from zero none = refl
range-none test from (suc len) none = search (rules, (filter-false test from (range_with_len (from + 1) len)), (range-none test (from + 1) len))

-- ---- the numbers of the queues that permit a list

module _ (decides : (hold : Hold) (queue : List Piece) (held : Option Piece) (pieces : List Piece) → IsTrue (permits hold queue held pieces) ↔ Permits hold queue held pieces)
    (problem : Problem) (lists : List (List Piece)) where
  abbrev all : List (List Piece)
  all = queues (elements_of problem.pattern)

  one-permitted : (number : ℕ) → number < length all → permits_one problem lists number ≡ true → IsPermitted problem lists number
  unfolding permits_one
  one-permitted number within passes = search (rules, (slice_get-get_or all number [] within), (some_passes (permits problem.hold (get_or all number []) problem.held)))

  permitted-one : (number : ℕ) → IsPermitted problem lists number → permits_one problem lists number ≡ true
  unfolding permits_one
  permitted-one number permitted =
      search (rules, (get_or_from_slice_get all number permitted.queue [] permitted.there), (any_passes (permits problem.hold (get_or all number []) problem.held)))

  not-one : (number : ℕ) → number < length all → (IsPermitted problem lists number → ⊥) → permits_one problem lists number ≡ false
  not-one number within none = search (rules, cases_Bool, (one-permitted number within))

  pub permitted-within : (number : ℕ) → IsPermitted problem lists number → number < length all
  permitted-within number permitted = slice_get_within all number permitted.queue permitted.there

  pub numbers-next : (from number : ℕ) → IsLeastFrom (IsPermitted problem lists) from number → numbers_from problem lists from ≡ number ∷ numbers_from problem lists (number + 1)
  unfolding numbers_from
  numbers-next from number least =
      let within = permitted-within number least.member in
      let left : from + (length all - from) - (number + 1) ≡ length all - (number + 1) = omega (arith, within, least.above) in
      range-next (permits_one problem lists) from (length all - from) number least.above (omega (arith, within, least.above)) (permitted-one number least.member)
      (λ k low high. not-one k (omega (arith, high, within)) (λ member. let later = least.least k member low in omega (arith, later, high)))
      ∙ ap (λ n. number ∷ filter (permits_one problem lists) (range_with_len (number + 1) n)) left

  pub numbers-none : (from : ℕ) → ((other : ℕ) → IsPermitted problem lists other → from ≤ other → ⊥) → numbers_from problem lists from ≡ []
  unfolding numbers_from
  numbers-none from none =
      range-none (permits_one problem lists) from (length all - from) (λ k low high. not-one k (omega (arith, low, high)) (λ member. none k member low))

  pub numbers-over : (from : ℕ) → length all ≤ from → numbers_from problem lists from ≡ []
  numbers-over from over = numbers-none from (λ other member above. let within = permitted-within other member in omega (arith, within, above, over))

  module _ (sequences : List (List Placement)) (kept : KeepsKindsOf problem lists sequences) where
    covered-permitted : (number : ℕ) → IsCovered problem sequences number → IsPermitted problem lists number
    covered-permitted number covered = record {
      queue = covered.queue;
      there = covered.there;
      kinds = pieces_of covered.sequence;
      listed = (kept.each (pieces_of covered.sequence)).1 (record { sequence = covered.sequence; given = covered.given; plays = covered.plays; are = refl });
      permitted = covered.permitted;
    }

    permitted-covered : (number : ℕ) → IsPermitted problem lists number → IsCovered problem sequences number
    permitted-covered number permitted =
        let are = (kept.each permitted.kinds).0 permitted.listed in
        record {
          queue = permitted.queue;
          there = permitted.there;
          sequence = are.sequence;
          given = are.given;
          plays = are.plays;
          permitted = subst (Permits problem.hold permitted.queue problem.held) (sym are.are) permitted.permitted;
        }

    pub covered-list : IsCoveredList problem sequences (numbers_from problem lists 0)
    unfolding numbers_from
    covered-list = record {
      rising = IsStrictlySortedBy-filter nat_cmp (permits_one problem lists) (range_with_len 0 (length all - 0)) (rising-range 0 (length all - 0));
      members = λ number. (
        λ among.
            let found = Contains-from_filter (permits_one problem lists) (range_with_len 0 (length all - 0)) number among in
            let within = range-from 0 (length all - 0) number found.0 in
            permitted-covered number (one-permitted number (omega (arith, within.1)) found.1),
        λ covered.
            let permitted = covered-permitted number covered in
            let within = permitted-within number permitted in
            Contains-filter (permits_one problem lists) (range_with_len 0 (length all - 0)) number (Contains-range 0 (length all - 0) number (omega arith) (omega (arith, within))) (permitted-one number permitted),
      );
    }

-- ---- the lines

pub form-next : (all : List (List Piece)) (numbers rest : List ℕ) (number : ℕ) (queue : List Piece) → numbers ≡ number ∷ rest → slice_get all number ≡ Some queue
    → queues_form all numbers ≡ queue_form queue ++ queues_form all rest
unfolding queues_form
form-next all numbers rest number queue is there = search (rules, get_or_from_slice_get)

pub form-none : (all : List (List Piece)) (numbers : List ℕ) → numbers ≡ [] → queues_form all numbers ≡ []
unfolding queues_form
form-none all numbers none = ap (λ l. flat_map (λ n. queue_form (get_or all n [])) l) none

pub size-more : (before : List (List Placement)) (sequence : List Placement) → sum_by length (before ++ sequence ∷ []) ≡ sum_by length before + length sequence
size-more before sequence = omega (arith, sum_by-append length before (sequence ∷ []), sum_by-cons length sequence [])

-- the first sequences have no more placements than all
pub size-front : (sequences : List (ArrayVec Placement)) (i : ℕ) → sum_by length (map listed_placements (take i sequences)) ≤ sum_by length (map listed_placements sequences)
size-front sequences i =
    search (rules, (map-append listed_placements (take i sequences) (drop i sequences)), (take-append-drop i sequences), (sum_by-append length (map listed_placements (take i sequences)) (map listed_placements (drop i sequences))))
