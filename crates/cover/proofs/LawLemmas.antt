-- Where all solutions are among the sequences, a queue is covered exactly where it has one.
use Rattle.std.proofs.Common.{◌≡◌, ◌↔◌, ℕ, Some, None, List, Contains, slice_get, sym, ◌∙◌, [], ◌∷◌, rules, arith}
use Rattle.std.proofs.lemmas.Option.{get_or_from_slice_get, slice_get_within}
use Rattle.srs.specs.declared.piece.Piece.{Piece}
use Rattle.srs.specs.declared.placement.Placement.{Placement}
use Rattle.queue_pattern.specs.Pattern.{elements_of}
use Rattle.queue_pattern.specs.Queues.{queues}
use Rattle.hold_queue.specs.Permits.{Permits}
use Rattle.problem.specs.declared.problem.Problem.{Problem}
use Rattle.problem.specs.Solution.{IsSolution, pieces_of}
use Rattle.srs.proofs.CallerLemmas.{Contains-here}
use Rattle.cover.specs.Covered.{IsCovered}

among : (lists : List (List Piece)) (number : ℕ) (queue : List Piece) → slice_get lists number ≡ Some queue → Contains lists queue
among lists number queue there = (number, slice_get_within lists number queue there, get_or_from_slice_get lists number queue queue there)

same_queue : (problem : Problem) (number : ℕ) (queue other : List Piece) → slice_get (queues (elements_of problem.pattern)) number ≡ Some queue → slice_get (queues (elements_of problem.pattern)) number ≡ Some other → other ≡ queue
same_queue problem number queue other there also = let same : Some other ≡ Some queue = sym also ∙ there in cc

-- a queue alone among those that count
alone : (queue other : List Piece) → Contains (queue ∷ []) other → other ≡ queue
alone queue other one = search rules

pub covered-solved : (problem : Problem) (sequences : List (List Placement)) (number : ℕ) (queue : List Piece) → ((sequence : List Placement) → IsSolution problem None sequence → Contains sequences sequence)
    → slice_get (queues (elements_of problem.pattern)) number ≡ Some queue → IsCovered problem sequences number ↔ ((sequence : List Placement) × IsSolution problem (Some queue) sequence)
covered-solved problem sequences number queue all there = grind (arith, Contains-here, same_queue, among, alone)

-- a queue alone permits the pieces of its solutions
pub solved-permits : (problem : Problem) (queue : List Piece) (sequence : List Placement) → IsSolution problem (Some queue) sequence → Permits problem.hold queue problem.held (pieces_of sequence)
solved-permits problem queue sequence solved = search rules
