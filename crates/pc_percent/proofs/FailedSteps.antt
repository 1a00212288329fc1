-- What a turn of the loop over the queues leaves to write.
use Rattle.std.proofs.Common.{◌≡◌, ◌∙◌, ◌↔◌, ℕ, zero, suc, ◌+◌, ◌-◌, ◌<◌, ◌≤◌, List, [], ◌++◌, length, drop, Bool, true, false, IsTrue, refl, ap, subst, arith, get_or}
use Rattle.std.specs.Prelude.{Some, slice_get}
use Rattle.std.proofs.lemmas.List.{at_drop_more, drop_all}
use Rattle.std.proofs.lemmas.Option.{get_or_from_slice_get, slice_get-get_or}
use Rattle.srs.specs.declared.piece.Piece.{Piece}
use Rattle.queue_pattern.specs.Pattern.{elements_of}
use Rattle.queue_pattern.specs.Queues.{queues}
use Rattle.problem.specs.declared.problem.Problem.{Problem}
use Rattle.problem.specs.Problem.{IsFit}
use Rattle.percent.specs.Good.{Good}
use Rattle.percent.specs.GoodHands.{is_good_queue}
use Rattle.percent.proofs.CallerLemmas.{good-decides}
use Rattle.pc_percent.specs.Lines.{failed_form, failed_lines}
use Rattle.pc_percent.proofs.FailedLines.{failed_first, good_passed, none_asked, none_left}

module _ (test : List Piece → Bool) (qs : List (List Piece)) (n : ℕ) where
  pub none_more : (left : ℕ) → left ≡ 0 → failed_lines test left (drop n qs) ≡ []
  none_more left e = ap (λ l. failed_lines test l (drop n qs)) e ∙ none_asked test (drop n qs)

  pub good_more : (left : ℕ) → n < length qs → test (get_or qs n []) ≡ true → failed_lines test left (drop n qs) ≡ failed_lines test left (drop (n + 1) qs)
  good_more left within good =
      at_drop_more (failed_lines test left) qs n [] within ∙ good_passed test left (get_or qs n []) (drop (n + 1) qs) good

  pub failed_more : (left rest : ℕ) (queue : List Piece) → 0 < left → rest ≡ left - 1 → n < length qs → slice_get qs n ≡ Some queue → test queue ≡ false
      → failed_lines test left (drop n qs) ≡ failed_form queue ++ failed_lines test rest (drop (n + 1) qs)
  failed_more zero rest queue some e within there bad = absurd (omega arith)
  failed_more (suc left) rest queue some e within there bad =
      let same : get_or qs n queue ≡ queue = get_or_from_slice_get qs n queue queue there in
      let fewer : left ≡ rest = omega (arith, e) in
      at_drop_more (failed_lines test (suc left)) qs n queue within
      ∙ failed_first test left (get_or qs n queue) (drop (n + 1) qs) (ap test same ∙ bad)
      ∙ (λ i. failed_form (same i) ++ failed_lines test (fewer i) (drop (n + 1) qs))

  pub none_over : (left : ℕ) → length qs ≤ n → failed_lines test left (drop n qs) ≡ []
  none_over left over = ap (failed_lines test left) (drop_all n qs over) ∙ none_left test left

module _ (problem other : Problem) (same : other ≡ problem) (fit : IsFit problem) (n : ℕ) (answer : Bool)
    (told : (queue : List Piece) → slice_get (queues (elements_of other.pattern)) n ≡ Some queue → IsTrue answer ↔ Good other queue) where
  told_here : (queue : List Piece) → slice_get (queues (elements_of problem.pattern)) n ≡ Some queue → IsTrue answer ↔ Good problem queue
  told_here = subst (λ p. (queue : List Piece) → slice_get (queues (elements_of p.pattern)) n ≡ Some queue → IsTrue answer ↔ Good p queue) same told

  pub answered_good : n < length (queues (elements_of problem.pattern)) → answer ≡ true → is_good_queue problem (get_or (queues (elements_of problem.pattern)) n []) ≡ true
  answered_good within passes =
      let queue = get_or (queues (elements_of problem.pattern)) n [] in
      (good-decides problem queue fit).1 ((told_here queue (slice_get-get_or (queues (elements_of problem.pattern)) n [] within)).0 passes)

  pub answered_failed : (queue : List Piece) → slice_get (queues (elements_of problem.pattern)) n ≡ Some queue → answer ≡ false → is_good_queue problem queue ≡ false
  answered_failed queue there fails = by (is_good_queue problem queue) refl where
    by : (b : Bool) → is_good_queue problem queue ≡ b → is_good_queue problem queue ≡ false
    by false e = e
    by true e = let passes : answer ≡ true = (told_here queue there).1 ((good-decides problem queue fit).0 e) in cc
