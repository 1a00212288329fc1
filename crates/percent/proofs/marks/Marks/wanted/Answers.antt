-- The bit of each index is set.
use Rattle.std.proofs.Common.{arith}
use Rattle.percent.proofs.MarkLemmas.{all-wanted, set-more, set-starts}
use Rattle.percent.proofs.marks.Marks.wanted.Goals as goal

pub loop-index-init : goal.loop-index-init
loop-index-init c = set-starts c.deref-index-items.result.now 0

pub loop-index-preserved : goal.loop-index-preserved
loop-index-preserved c =
    set-more c.deref-index-items.result.now c.loop-index.wanted c.loop-index.index-index c.in-Some.known_index c.loop-index.invariant
    (c.in-Some.is)
    (omega (arith, c.if-known_index-gt63.false))

pub returns : goal.returns
returns c =
    all-wanted c.args.self.now.known.items c.args.asked.now.piece c.args.asked.now.left c.args.asked.now.hands.items c.args.asked.now.indexes.items c.deref-index-items.result.now c.loop-index.wanted c.loop-index.index-index
    c.requires c.deref-index-items.ensures.value c.loop-index.invariant (omega (arith, c.loop-index-test.false))
