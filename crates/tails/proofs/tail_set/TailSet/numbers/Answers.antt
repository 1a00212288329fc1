-- The tails of each block are pushed.
use Rattle.std.proofs.Common.{◌||◌, length, get_or, ap, sym, ◌∙◌, arith, ◌/◌, ◌%◌}
use Rattle.tails.specs.Blocks.{in_block}
use Rattle.tails.specs.TailSets.{has}
use Rattle.hands.specs.Numbers.{has_number}
use Rattle.hands.proofs.CallerLemmas.{has-none}
use Rattle.tails.proofs.MergeSteps.{first-more, first_have}
use Rattle.tails.proofs.PartLemmas.{no_block, parts-all, parts-none}
use Rattle.tails.proofs.tail_set.TailSet.numbers.Goals as goal

pub loop-block-init : goal.loop-block-init
loop-block-init c = λ tail. ap (λ l. has_number l tail) c.in_ok-numbers.ensures.items ∙ has-none tail ∙ sym (parts-none (tail / 64) (tail % 64))

pub loop-block-preserved : goal.loop-block-preserved
loop-block-preserved c = λ tail.
    let size = ap length c.deref-block-items.ensures.value in
    let blocks = c.args.self.now.blocks.items in
    let i = c.loop-block.block-index in
    c.in_ok-push_tails.ensures tail
    ∙ ap (λ b. b || in_block (get_or c.deref-block-items.result.now i no_block) tail) (c.loop-block.invariant tail)
    ∙ (λ x. first_have blocks i tail || in_block (get_or (c.deref-block-items.ensures.value x) i no_block) tail)
    ∙ sym (first-more blocks i no_block tail (let inside = c.loop-block-test.true in omega arith))

pub returns : goal.returns
unfolding has
returns c = λ tail.
    c.loop-block.invariant tail
    ∙ parts-all c.args.self.now.blocks.items c.loop-block.block-index (tail / 64) (tail % 64) (let size = ap length c.deref-block-items.ensures.value in let end = c.loop-block-test.false in omega arith)
