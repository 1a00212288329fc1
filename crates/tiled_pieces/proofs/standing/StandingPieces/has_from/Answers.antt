-- The piece at the index is there.
use Rattle.std.proofs.Common.{sym, subst, arith}
use Rattle.std.specs.List.{Contains}
use Rattle.std.proofs.lemmas.List.Elements.{Contains-get_or}
use Rattle.tiled_pieces.proofs.standing.StandingPieces.has_from.Goals as goal

pub returns-then-is_equal : goal.returns-then-is_equal
returns-then-is_equal c = λ _.
    let pieces = c.args.self.now.pieces.items in
    record {
      piece = c.index-piece.result.now;
      there = subst (Contains pieces) (sym c.index-piece.ensures) (Contains-get_or pieces c.loop-index.index c.index-piece.result.now (omega (arith, c.loop-index-test.true, c.len-index-end.ensures)));
      same = c.is_equal.ensures.0 c.if-is_equal.true;
      list = c.if-piece-number.true;
    }
