-- The mark at the index has the counts.
use Rattle.std.proofs.Common.{refl, arith}
use Rattle.std.proofs.lemmas.Option.{slice_get_read}
use Rattle.percent.proofs.marks.is_mark_of.Goals as goal

pub returns : goal.returns
returns c = λ is.
    record {
      mark = c.index-known-index.result;
      there = slice_get_read c.args.known.now _ c.args.index c.index-known-index.result refl (omega (arith, c.if-min-index.false, c.min.ensures)) c.index-known-index.is;
      few = omega (arith, c.if-min-index.false, c.min.ensures);
      same = c.are_same.ensures.0 is;
    }
