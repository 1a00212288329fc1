-- The flag of a queue says whether it is good.
use Rattle.std.proofs.Common.{◌≡◌, ◌∙◌, ◌↔◌, ℕ, ◌<◌, ◌≤◌, Bool, false, IsTrue, List, [], length, get_or, sym, arith}
use Rattle.std.specs.Prelude.{Some, slice_get}
use Rattle.std.proofs.lemmas.List.{get_or-map, get_or_past, length-map}
use Rattle.std.proofs.lemmas.Option.{slice_get-get_or}
use Rattle.lane_board.proofs.CallerLemmas.{same_from_both}
use Rattle.srs.specs.declared.piece.Piece.{Piece}
use Rattle.queue_pattern.specs.Pattern.{elements_of}
use Rattle.queue_pattern.specs.Queues.{queues}
use Rattle.problem.specs.declared.problem.Problem.{Problem}
use Rattle.problem.specs.Problem.{IsFit}
use Rattle.percent.specs.Good.{Good}
use Rattle.percent.specs.GoodHands.{is_good_queue}
use Rattle.percent.proofs.CallerLemmas.{good-decides}
use Rattle.pc_good_queues.specs.Flags.{flags_of}

module _ (problem : Problem) where
  pub flags_count : length (flags_of problem) ≡ length (queues (elements_of problem.pattern))
  unfolding flags_of
  flags_count = length-map (queues (elements_of problem.pattern)) (is_good_queue problem)

  pub flag_past : (n : ℕ) → length (queues (elements_of problem.pattern)) ≤ n → get_or (flags_of problem) n false ≡ false
  flag_past n past = get_or_past (flags_of problem) n false (let all = flags_count in omega (arith, all, past))

  pub flag_there : IsFit problem → (n : ℕ) (answer : Bool) → n < length (queues (elements_of problem.pattern))
      → ((queue : List Piece) → slice_get (queues (elements_of problem.pattern)) n ≡ Some queue → IsTrue answer ↔ Good problem queue)
      → answer ≡ get_or (flags_of problem) n false
  unfolding flags_of
  flag_there fit n answer within told =
      let queue = get_or (queues (elements_of problem.pattern)) n [] in
      let good = told queue (slice_get-get_or (queues (elements_of problem.pattern)) n [] within) in
      let decides = good-decides problem queue fit in
      same_from_both answer (is_good_queue problem queue) (λ yes. decides.1 (good.0 yes)) (λ yes. good.1 (decides.0 yes))
      ∙ sym (get_or-map (is_good_queue problem) (queues (elements_of problem.pattern)) n [] false within)
