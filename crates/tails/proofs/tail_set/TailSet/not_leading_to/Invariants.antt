use Rattle.srs.specs.Piece.{piece_code}
use Rattle.tails.specs.Takings.{AreLastTakings}
use Rattle.tails.specs.Tails.{leads}
use Rattle.tails.specs.TailSets.{has}
use Rattle.tails.proofs.KeptSteps.{HasKept}
use Rattle.tails.proofs.tail_set.TailSet.not_leading_to.Given as goal

abbrev pub invariant-loop-block : goal.invariant-loop-block
invariant-loop-block l = record {
  last : AreLastTakings l.tree (piece_code l.piece) l.last;
  stay : HasKept (leads l.tree (piece_code l.piece) (has l.fn.rests)) l.fn.self.blocks.items l.block-index l.tails;
}
