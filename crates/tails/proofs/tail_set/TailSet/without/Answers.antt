-- The bits of each block that the other set has too are left out.
use Rattle.std.proofs.Common.{◌∙◌, get_or, sym, arith, ◌%◌}
use Rattle.tails.specs.Blocks.{have_parts}
use Rattle.tails.specs.TailSets.{has}
use Rattle.tails.proofs.KeptSteps.{AreKept, kept-all, kept-none, kept-step}
use Rattle.tails.proofs.PartLemmas.{no_block}
use Rattle.tails.proofs.tail_set.TailSet.without.Goals as goal

pub loop-block-init : goal.loop-block-init
loop-block-init c = kept-none (has c.args.other.now) c.args.self.now.blocks.items c.in_ok-tails.tails c.in_ok-tails.ensures

pub loop-block-preserved : goal.loop-block-preserved
unfolding has
loop-block-preserved c =
    let items = c.deref-block-items.result.now in
    let index = c.loop-block.block-index in
    let kept : AreKept (has c.args.other.now) (get_or items index no_block) c.bits_without.result = record {
      gone = c.bits_at-gone.result;
      bits_are = c.bits_without.ensures.bits;
      test_is = λ tail is. c.bits_at-gone.ensures (tail % 64) ∙ (λ i. have_parts (c.as_slice-others.ensures.value i) (sym is i) (tail % 64));
    } in
    kept-step (has c.args.other.now) c.args.self.now.blocks.items items index no_block c.bits_without.result c.loop-block.tails c.add.new.self
    c.deref-block-items.ensures.value c.loop-block-test.true kept c.in_ok-add.ensures.added c.loop-block.invariant

pub returns : goal.returns
returns c =
    kept-all (has c.args.other.now) c.args.self.now c.loop-block.tails c.loop-block.block-index (omega (arith, c.loop-block-test.false, c.deref-block-items.ensures.len)) c.loop-block.invariant
