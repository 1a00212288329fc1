use Rattle.srs.specs.Piece.{piece_code}
use Rattle.tails.specs.Takings.{AreLastTakings}
use Rattle.tails.proofs.RestLists.{HasRests}
use Rattle.tails.proofs.tail_set.TailSet.rests_of.Given as goal

abbrev pub invariant-loop-block : goal.invariant-loop-block
invariant-loop-block l = record {
  last : AreLastTakings l.tree (piece_code l.piece) l.last;
  rests : HasRests l.tree (piece_code l.piece) l.self.blocks.items l.block-index l.rests.items;
}
