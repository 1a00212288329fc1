-- Sorted blocks are added one by one.
use Rattle.std.proofs.Common.{◌<◌, ◌^◌, [], refl, subst, sym}
use Rattle.std.specs.Prelude.{IsPermutation}
use Rattle.std.proofs.lemmas.List.Sorted.{All-permutation}
use Rattle.tails.specs.declared.block.Block.{Block}
use Rattle.tails.proofs.GatherSteps.{added-done}
use Rattle.tails.proofs.MergeSteps.{merge-first, merge-starts}
use Rattle.tails.proofs.PartLemmas.{no_block}
use Rattle.tails.proofs.tail_set.TailSet.of.Goals as goal

pub loop-block-init : goal.loop-block-init
loop-block-init c = merge-starts c.none-tails.result c.deref-block-items.result.now [] c.none-tails.ensures.none

pub add-requires : goal.add-requires
add-requires c =
    let same : IsPermutation c.args.blocks.items c.deref-block-items.result.now = subst (IsPermutation c.args.blocks.items) (sym c.deref-block-items.ensures.value) c.sort_unstable_by_key.ensures.permutation in
    All-permutation (λ (block : Block). block.key < 2 ^ 58) c.args.blocks.items c.deref-block-items.result.now same c.requires c.loop-block.block-index no_block c.loop-block-test.true

pub loop-block-preserved : goal.loop-block-preserved
loop-block-preserved c =
    merge-first c.loop-block.tails c.add.new.self c.deref-block-items.result.now [] c.loop-block.block-index 0 _ no_block c.loop-block.invariant c.loop-block-test.true refl c.in_ok-add.ensures.added

pub returns : goal.returns
returns c =
    added-done c.loop-block.tails c.args.blocks.items c.deref-block-items.result.now c.loop-block.block-index c.loop-block.invariant c.loop-block-test.false
    (subst (IsPermutation c.args.blocks.items) (sym c.deref-block-items.ensures.value) c.sort_unstable_by_key.ensures.permutation)
