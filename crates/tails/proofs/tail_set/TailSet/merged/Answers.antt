-- Each block of either set is added.
use Rattle.std.proofs.Common.{length, get_or, refl, ap, arith}
use Rattle.tails.proofs.MergeSteps.{merge-done, merge-first, merge-second, merge-starts}
use Rattle.tails.proofs.PartLemmas.{no_block}
use Rattle.tails.proofs.tail_set.TailSet.merged.Goals as goal

pub loop-block-init : goal.loop-block-init
loop-block-init c = merge-starts c.in_ok-tails.tails c.args.self.now.blocks.items c.as_slice-others.result.now c.in_ok-tails.ensures

pub loop-next-preserved : goal.loop-next-preserved
loop-next-preserved c =
    merge-second c.loop-next.tails c.add.new.self c.args.self.now.blocks.items c.as_slice-others.result.now c.loop-block.block-index c.loop-next.next _ no_block
    c.loop-next.invariant c.loop-next-test.true refl c.in_ok-add.ensures.added

pub loop-block-preserved : goal.loop-block-preserved
loop-block-preserved c =
    let size = ap length c.deref-block-items.ensures.value in
    merge-first c.loop-next.tails c.add-in-loop-block.new.self c.args.self.now.blocks.items c.as_slice-others.result.now c.loop-block.block-index c.loop-next.next _ no_block
    c.loop-next.invariant (let inside = c.loop-block-test.true in omega arith) (ap (λ l. get_or l c.loop-block.block-index no_block) c.deref-block-items.ensures.value) c.in_ok-add-2.ensures.added

pub loop-next-2-preserved : goal.loop-next-2-preserved
loop-next-2-preserved c =
    merge-second c.loop-next-2.tails c.add-in-loop-next-2.new.self c.args.self.now.blocks.items c.as_slice-others.result.now (length c.args.self.now.blocks.items) c.loop-next-2.next _ no_block
    c.loop-next-2.invariant c.loop-next-2-test.true refl c.in_ok-add-3.ensures.added

pub returns : goal.returns
returns c =
    merge-done c.loop-next-2.tails c.args.self.now c.args.other.now c.args.self.now.blocks.items c.as_slice-others.result.now (length c.args.self.now.blocks.items) c.loop-next-2.next
    c.loop-next-2.invariant (omega arith) c.loop-next-2-test.false refl c.as_slice-others.ensures.value
