-- What the loops of `elements_with` keep.
use Rattle.std.proofs.Common.{◌≡◌, ◌-◌, ◌==◌, take, count_by}
use Rattle.std.specs.Int.{bit_at}
use Rattle.srs.specs.Piece.{piece_code}
use Rattle.queue_pattern.specs.Pattern.{elements_of}
use Rattle.hold_queue.proofs.supply.elements_with.Given as goal

abbrev pub invariant-loop-index : goal.invariant-loop-index
invariant-loop-index l = l.count ≡ count_by (λ element. bit_at element.set (piece_code l.piece - 1) == 1) (take l.index (elements_of l.pattern))
