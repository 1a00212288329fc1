-- One more character is packed, and then all are.
use Rattle.std.proofs.Common.{get_or, arith, rules}
use Rattle.fumen_comment.proofs.Packing.{packed_more, packed_all, packed_below}
use Rattle.fumen_comment.proofs.part.packed.Goals as goal

pub loop-c-preserved : goal.loop-c-preserved
loop-c-preserved c =
    search (rules, (packed_more c.args.group.now c.loop-c.c-index c.loop-c.number c.loop-c.weight (get_or c.args.group.now c.loop-c.c-index 0) c.loop-c-test.true))

pub returns-clause-value : goal.returns-clause-value
returns-clause-value c = packed_all c.args.group.now c.loop-c.c-index c.loop-c.number c.loop-c.weight c.loop-c-test.false c.loop-c.invariant

pub returns-clause-below : goal.returns-clause-below
returns-clause-below c = packed_below c.args.group.now c.loop-c.c-index c.loop-c.number c.loop-c.weight (omega arith) c.loop-c.invariant
