-- The queues before a number are good, and the one with the number is told to be good or not.
use Rattle.std.proofs.Common.{◌≡◌, ◌↔◌, ℕ, ◌+◌, ◌<◌, ◌≤◌, Bool, true, false, IsTrue, List, [], ◌∷◌, ◌++◌, length, take, drop, get_or, sym, ap, subst, ◌∙◌}
use Rattle.std.specs.Prelude.{All, Some, slice_get}
use Rattle.std.proofs.lemmas.List.{drop_more, take-append-drop, take_all}
use Rattle.std.proofs.lemmas.List.Elements.{All-more}
use Rattle.std.proofs.lemmas.Option.{get_or_from_slice_get, slice_get-get_or, slice_get_within}
use Rattle.srs.specs.declared.piece.Piece.{Piece}
use Rattle.queue_pattern.specs.Pattern.{elements_of}
use Rattle.queue_pattern.specs.Queues.{queues}
use Rattle.problem.specs.declared.problem.Problem.{Problem}
use Rattle.percent.specs.Good.{Good}
use Rattle.calling.specs.FirstFailed.{FailsFirst}

abbrev pub pattern_queues : Problem → List (List Piece)
pattern_queues problem = queues (elements_of problem.pattern)

module _ (problem other : Problem) (same : other ≡ problem) (n : ℕ) (before : All (Good problem) (take n (pattern_queues problem))) (answer : Bool)
    (told : (queue : List Piece) → slice_get (pattern_queues other) n ≡ Some queue → IsTrue answer ↔ Good other queue) where
  told_here : (queue : List Piece) → slice_get (pattern_queues problem) n ≡ Some queue → IsTrue answer ↔ Good problem queue
  told_here = subst (λ p. (queue : List Piece) → slice_get (pattern_queues p) n ≡ Some queue → IsTrue answer ↔ Good p queue) same told

  pub good_more : n < length (pattern_queues problem) → answer ≡ true → All (Good problem) (take (n + 1) (pattern_queues problem))
  good_more within passes =
      All-more (Good problem) (pattern_queues problem) n [] within before
      ((told_here (get_or (pattern_queues problem) n []) (slice_get-get_or (pattern_queues problem) n [] within)).0 passes)

  pub fails_first : (queue : List Piece) → slice_get (pattern_queues problem) n ≡ Some queue → answer ≡ false → FailsFirst problem queue
  fails_first queue there fails =
      let qs = pattern_queues problem in
      let next = drop_more qs n queue (slice_get_within qs n queue there) in
      let here = get_or_from_slice_get qs n queue queue there in
      record {
        before = take n qs;
        behind = drop (n + 1) qs;
        stands = sym (take-append-drop n qs) ∙ ap (λ l. take n qs ++ l) (next ∙ ap (λ q. q ∷ drop (n + 1) qs) here);
        good = before;
        failed = λ good. let passes : answer ≡ true = (told_here queue there).1 good in cc;
      }

pub all_good : (problem : Problem) (n : ℕ) → length (pattern_queues problem) ≤ n → All (Good problem) (take n (pattern_queues problem)) → All (Good problem) (pattern_queues problem)
all_good problem n over good = subst (All (Good problem)) (take_all n (pattern_queues problem) over) good
