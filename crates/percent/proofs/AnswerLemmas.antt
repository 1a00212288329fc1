-- The tails of all queues, and how many queues are good.
use Rattle.std.proofs.Common.{not, ℕ, ◌≡◌, ◌+◌, ◌/◌, ◌%◌, ◌<◌, ◌↔◌, IsTrue, Bool, true, false, ◌&&◌, List, [], ◌∷◌, ◌++◌, length, length-append, get_or, take, ◌-◌, refl, ap, subst, ◌∙◌, sym, arith, inl, inr, rules}
use Rattle.std.specs.Prelude.{Some, slice_get, count_by}
use Rattle.std.proofs.lemmas.Bool.{cases_lt, and_right}
use Rattle.std.proofs.lemmas.List.{get_or_append_left, get_or-append_right}
use Rattle.std.proofs.lemmas.Option.{get_or_from_slice_get}
use Rattle.srs.specs.declared.piece.Piece.{Piece}
use Rattle.percent.specs.Good.{Good}
use Rattle.well.specs.Well.{filled}
use Rattle.queue_pattern.specs.Pattern.{elements_of}
use Rattle.queue_pattern.specs.Queues.{queues}
use Rattle.tails.specs.declared.tail_set.TailSet.{TailSet}
use Rattle.tails.specs.declared.tree.TailTree.{TailTree}
use Rattle.tails.specs.TailSets.{has}
use Rattle.tails.specs.Tails.{hand_at, start_tail}
use Rattle.problem.specs.declared.problem.Problem.{Problem}
use Rattle.problem.specs.Problem.{IsFit, empties_of, needed_of}
use Rattle.hands.specs.Hands.{hand_of}
use Rattle.percent.specs.GoodHands.{game_of, is_good, is_good_queue}
use Rattle.percent.specs.GoodTails.{is_good_tail}
use Rattle.percent.specs.QueueAnswers.{AreAnswers, BeginAlike, HasEachTail, HasGoodTails, IsTreeOf, numbered_tail}
use Rattle.percent.proofs.GoodLemmas.{good-decides, uneven-none}
use Rattle.percent.proofs.StartLemmas.{part-within, start-is-hand}

-- each queue has its tail among those of the tree's queues
pub each-tail : (problem : Problem) (tree : TailTree) (alike : ℕ) (tails : TailSet) → BeginAlike problem tree alike
    → ((number : ℕ) → number < length (queues (elements_of tree.pattern)) → has tails (start_tail tree problem.held number) ≡ true) → HasEachTail problem tree alike (has tails)
unfolding numbered_tail
each-tail problem tree alike tails begin all = record {
  each = λ number within. all (number / alike)
      (part-within (length (queues (elements_of problem.pattern))) (length (queues (elements_of tree.pattern))) alike number begin.some begin.all within);
}

-- the good ones of all tails are those of good queues
pub good-tails : (problem : Problem) (tree : TailTree) (alike : ℕ) (tails good : TailSet) → IsFit problem → IsTreeOf problem (elements_of problem.pattern) tree
    → BeginAlike problem tree alike → HasEachTail problem tree alike (has tails)
    → ((tail : ℕ) → has good tail ≡ (has tails tail && is_good_tail tree (game_of problem) (filled problem.well) problem.height (needed_of problem) tail))
    → HasGoodTails problem tree alike good
unfolding numbered_tail is_good_queue is_good_tail
good-tails problem tree alike tails good fit of begin all good_is = record {
  each = λ number within.
      let tail = start_tail tree problem.held (number / alike) in
      let hand = start-is-hand problem (elements_of problem.pattern) tree alike number fit of begin.some begin.all within in
      good_is tail ∙ (λ i. all.each number within i && is_good (game_of problem) (filled problem.well) problem.height (needed_of problem) (hand i));
}

-- so many of the first queues are good
pub record Counting (problem : Problem) (number count : ℕ) : Type 0 where
  pub is : count ≡ count_by (is_good_queue problem) (take number (queues (elements_of problem.pattern)))

decided : (problem : Problem) (queue : List Piece) (result : Bool) → IsFit problem → result ≡ is_good_queue problem queue → IsTrue result ↔ Good problem queue
decided problem queue result fit is = subst (λ b. IsTrue b ↔ Good problem queue) (sym is) (good-decides problem queue fit)

-- the answer for the tail of one queue alone is that for the queue
pub one-answer : (problem : Problem) (queue : List Piece) (tree : TailTree) (tails good : TailSet) (tail : ℕ) (result : Bool) → IsFit problem
    → hand_at tree tail ≡ hand_of problem.hold problem.held (needed_of problem) queue → has tails tail ≡ true
    → ((other : ℕ) → has good other ≡ (has tails other && is_good_tail tree (game_of problem) (filled problem.well) problem.height (needed_of problem) other))
    → result ≡ has good tail → IsTrue result ↔ Good problem queue
unfolding is_good_queue is_good_tail
one-answer problem queue tree tails good tail result fit hand there good_is result_is =
    decided problem queue result fit
    (result_is ∙ good_is tail ∙ (λ i. there i && is_good (game_of problem) (filled problem.well) problem.height (needed_of problem) (hand i)))

-- the answer for a numbered queue
pub numbered-answer : (problem : Problem) (number : ℕ) (queue : List Piece) (answers : List Bool) (all : ℕ) (result : Bool) → IsFit problem → AreAnswers problem answers all
    → number < all → slice_get (queues (elements_of problem.pattern)) number ≡ Some queue
    → result ≡ get_or answers number false → IsTrue result ↔ Good problem queue
numbered-answer problem number queue answers all result fit are within read result_is =
    decided problem queue result fit (result_is ∙ are.each number within ∙ ap (is_good_queue problem) (get_or_from_slice_get (queues (elements_of problem.pattern)) number queue [] read))

pub judge-starts : (problem : Problem) (answers : List Bool) → answers ≡ [] → AreAnswers problem answers 0
judge-starts problem answers nil = record { size = ap length nil; each = λ number within. absurd (omega arith) }

-- whether one queue more is good, by its tail
pub judge-more : (problem : Problem) (tree : TailTree) (alike : ℕ) (good : TailSet) (answers : List Bool) (number tail : ℕ) (answer : Bool) → HasGoodTails problem tree alike good → number < length (queues (elements_of problem.pattern))
    → tail ≡ numbered_tail problem tree alike number → answer ≡ has good tail → AreAnswers problem answers number → AreAnswers problem (answers ++ answer ∷ []) (number + 1)
judge-more problem tree alike good answers number tail answer exact within tail_is is state =
    let size = state.size in
    let more = length-append answers (answer ∷ []) in record {
      size = omega (arith, size, more);
      each = λ k below. elim (cases_lt k number) [
        | inl before ↦ get_or_append_left answers (answer ∷ []) false k (omega (arith, size)) ∙ state.each k before
        | inr last ↦
            let at : k ≡ number = omega arith in
            let zero : k - length answers ≡ 0 = omega (arith, size) in
            get_or-append_right answers (answer ∷ []) (length answers) k false refl (omega (arith, size)) ∙ ap (λ n. get_or (answer ∷ []) n false) zero
            ∙ is ∙ ap (has good) tail_is ∙ exact.each number within
            ∙ ap (λ n. is_good_queue problem (get_or (queues (elements_of problem.pattern)) n [])) (sym at)
      ];
    }

pub uneven-answer : (problem : Problem) (tree : TailTree) (tails : TailSet) → IsFit problem → (empties_of problem % 4 ≡ 0 → ⊥)
    → (tail : ℕ) → false ≡ (has tails tail && is_good_tail tree (game_of problem) (filled problem.well) problem.height (needed_of problem) tail)
unfolding is_good_tail
uneven-answer problem tree tails fit uneven tail = search (rules, and_right, uneven-none)

-- where no tail is left that is not good, all are
pub whole-tails : (problem : Problem) (tree : TailTree) (alike : ℕ) (tails good rest : TailSet) → ((tail : ℕ) → has rest tail ≡ (has tails tail && not (has good tail)))
    → ((tail : ℕ) → has rest tail ≡ false) → HasEachTail problem tree alike (has tails) → HasEachTail problem tree alike (has good)
whole-tails problem tree alike tails good rest rest_is none state = record {
  each = λ number within.
      let tail = numbered_tail problem tree alike number in present (has tails tail) (has good tail) (state.each number within) (sym (rest_is tail) ∙ none tail);
}
  where
    present : (a b : Bool) → a ≡ true → (a && not b) ≡ false → b ≡ true
    present a b there empty = search rules
