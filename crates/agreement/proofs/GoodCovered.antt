-- With all solutions among the sequences, a queue is covered exactly where it is good.
use Rattle.std.proofs.Common.{◌≡◌, ◌∙◌, ◌↔◌, ℕ, suc, ◌+◌, Bool, true, false, IsTrue, List, [], ◌∷◌, length, Option, Some, None, refl, sym, ap, inl, inr, arith}
use Rattle.std.specs.Prelude.{Contains, count_by, filter, slice_get}
use Rattle.std.specs.List.{range_with_len}
use Rattle.std.specs.Ordering.{nat_cmp}
use Rattle.std.proofs.lemmas.Bool.{cases_Bool}
use Rattle.std.proofs.lemmas.Cmp.{nat_cmp_total}
use Rattle.std.proofs.lemmas.List.Kept.{IsStrictlySortedBy-filter}
use Rattle.std.proofs.lemmas.List.Sums.{length-filter}
use Rattle.std.proofs.lemmas.Option.{slice_get_within}
use Rattle.srs.proofs.CallerLemmas.{Contains-filter, Contains-from_filter, Contains-here, Contains-range, IsRisingListOf-unique, filter-false, filter-true, rising-range}
use Rattle.srs.specs.declared.piece.Piece.{Piece}
use Rattle.srs.specs.declared.placement.Placement.{Placement}
use Rattle.queue_pattern.specs.Pattern.{elements_of}
use Rattle.queue_pattern.specs.Queues.{queues}
use Rattle.problem.specs.declared.problem.Problem.{Problem}
use Rattle.problem.specs.Solution.{IsSolution}
use Rattle.cover.specs.Covered.{IsCovered, IsCoveredList}
use Rattle.cover.proofs.CallerLemmas.{covered-solved, solved-permits}
use Rattle.percent.specs.Good.{Good}

-- a queue is good where it has a solution of its own
good-solved : (problem : Problem) (queue : List Piece) → Good problem queue ↔ ((sequence : List Placement) × IsSolution problem (Some queue) sequence)
good-solved problem queue = (
  λ good. (good.sequence, record { plays = good.plays; permitted = (queue, Contains-here queue [], good.permitted) }),
  λ solved. record { sequence = solved.0; plays = solved.1.plays; permitted = solved-permits problem queue solved.0 solved.1 },
)

pub covered-good : (problem : Problem) (sequences : List (List Placement)) (number : ℕ) (queue : List Piece)
    → ((sequence : List Placement) → IsSolution problem None sequence → Contains sequences sequence)
    → slice_get (queues (elements_of problem.pattern)) number ≡ Some queue → IsCovered problem sequences number ↔ Good problem queue
covered-good problem sequences number queue all there =
    let solved = covered-solved problem sequences number queue all there in
    (λ covered. (good-solved problem queue).1 (solved.0 covered), λ good. solved.1 ((good-solved problem queue).0 good))

-- as many numbers pass a test as members of a list, where it is a test of the member with the number
counted : {A : Type 0} (by_number : ℕ → Bool) (test : A → Bool) (from : ℕ) (xs : List A)
    → ((k : ℕ) (x : A) → slice_get xs k ≡ Some x → by_number (from + k) ≡ test x)
    → length (filter by_number (range_with_len from (length xs))) ≡ length (filter test xs)
counted by_number test from [] same = refl
counted by_number test from (x ∷ xs) same =
    let first : by_number from ≡ test x = ap by_number (omega arith) ∙ same 0 x refl in
    let rest = counted by_number test (from + 1) xs (λ k y there. ap by_number (omega arith) ∙ same (suc k) y there) in
    elim (cases_Bool (test x)) [
      | inl passes ↦
          ap length (filter-true by_number from (range_with_len (from + 1) (length xs)) (first ∙ passes))
          ∙ ap suc rest ∙ sym (ap length (filter-true test x xs passes))
      | inr fails ↦
          ap length (filter-false by_number from (range_with_len (from + 1) (length xs)) (first ∙ fails))
          ∙ rest ∙ sym (ap length (filter-false test x xs fails))
    ]

module _ (problem : Problem) (sequences : List (List Placement)) (is_good : List Piece → Bool)
    (all : (sequence : List Placement) → IsSolution problem None sequence → Contains sequences sequence)
    (decides : (queue : List Piece) → IsTrue (is_good queue) ↔ Good problem queue) where
  all_queues : List (List Piece)
  all_queues = queues (elements_of problem.pattern)

  passes : Option (List Piece) → Bool
  passes None = false
  passes (Some queue) = is_good queue

  is_good_number : ℕ → Bool
  is_good_number number = passes (slice_get all_queues number)

  good_numbers : List ℕ
  good_numbers = filter is_good_number (range_with_len 0 (length all_queues))

  passes-covered : (number : ℕ) (found : Option (List Piece)) → slice_get all_queues number ≡ found → passes found ≡ true → IsCovered problem sequences number
  unfolding passes all_queues
  passes-covered number None there is = cc
  passes-covered number (Some queue) there is = (covered-good problem sequences number queue all there).1 ((decides queue).0 is)

  covered-passes : (number : ℕ) → IsCovered problem sequences number → is_good_number number ≡ true
  unfolding is_good_number passes all_queues
  covered-passes number covered =
      ap passes covered.there ∙ (decides covered.queue).1 ((covered-good problem sequences number covered.queue all covered.there).0 covered)

  good-list : IsCoveredList problem sequences good_numbers
  unfolding good_numbers is_good_number all_queues
  good-list =
      let range = range_with_len 0 (length all_queues) in
      record {
        rising = IsStrictlySortedBy-filter nat_cmp is_good_number range (rising-range 0 (length all_queues));
        members = λ number. (
          λ among. passes-covered number (slice_get all_queues number) refl (Contains-from_filter is_good_number range number among).1,
          λ covered. Contains-filter is_good_number range number (Contains-range 0 (length all_queues) number (omega arith) (omega (arith, slice_get_within all_queues number covered.queue covered.there))) (covered-passes number covered),
        );
      }

  pub covered-count : (numbers : List ℕ) → IsCoveredList problem sequences numbers → length numbers ≡ count_by is_good (queues (elements_of problem.pattern))
  unfolding good_numbers is_good_number passes all_queues
  covered-count numbers list =
      ap length (IsRisingListOf-unique nat_cmp nat_cmp_total (IsCovered problem sequences) numbers good_numbers list good-list)
      ∙ counted is_good_number is_good 0 all_queues (λ k queue there. ap (λ n. passes (slice_get all_queues n)) (omega arith) ∙ ap passes there)
      ∙ length-filter is_good all_queues
