-- A block that is put where its key belongs.
use Rattle.std.proofs.Common.{ℕ, ◌<◌, ◌≤◌, ◌-◌, ◌||◌, ap, ◌∙◌, length, get_or, arith, ◌/◌, ◌%◌}
use Rattle.tails.specs.declared.block.Block.{Block}
use Rattle.tails.specs.Blocks.{have_parts}
use Rattle.tails.specs.TailSets.{has}
use Rattle.tails.proofs.AddSteps.{above-all, at-last, each-insert, keys_rise-insert, joined-each, joined-order, joined-parts, joins, low-before, parts-insert, where-refused}
use Rattle.tails.proofs.PartLemmas.{parts-one}
use Rattle.tails.proofs.tail_set.TailSet.insert_block.Goals as goal
use Rattle.tails.proofs.tail_set.TailSet.insert_block.Goals.{then-loop-index-test+else-index-block, else-loop-index-test}

pub loop-index-init : goal.loop-index-init
loop-index-init c = at-last c.args.self.now.blocks.items _ c.args.block.key c.requires.some (omega arith) c.requires.before

pub invariant_of-self : goal.invariant_of-self
invariant_of-self c =
    let items = c.args.self.now.blocks.items in
    let join = joins items c.loop-index.index c.index_mut.result.now c.index-then-index-block-2.result.now c.index-2.result.now c.args.block c.bits_of_either.result c.loop-index.invariant.within
    c.index_mut.ensures.value c.index-then-index-block-2.ensures c.index-2.ensures c.if-index-block-2.true (omega arith) c.bits_of_either.ensures in
    record {
      rises = joined-order items c.loop-index.index c.index_mut.result.now c.args.block _ c.args.self.now.rises join;
      each = joined-each items c.loop-index.index c.index_mut.result.now c.args.block _ c.args.self.now.each join;
    }

pub returns-then-index-block-2-clause-added : goal.returns-then-index-block-2-clause-added
unfolding has
returns-then-index-block-2-clause-added c = λ tail.
    let items = c.args.self.now.blocks.items in
    let join = joins items c.loop-index.index c.index_mut.result.now c.index-then-index-block-2.result.now c.index-2.result.now c.args.block c.bits_of_either.result c.loop-index.invariant.within
    c.index_mut.ensures.value c.index-then-index-block-2.ensures c.index-2.ensures c.if-index-block-2.true (omega arith) c.bits_of_either.ensures in
    joined-parts items c.loop-index.index c.index_mut.result.now c.args.block _ (tail / 64) (tail % 64) join
    ∙ ap (λ b. have_parts items (tail / 64) (tail % 64) || b) (parts-one c.args.block tail)

pub invariant_of-self-2 : goal.invariant_of-self-2
invariant_of-self-2 c =
    let items = c.args.self.now.blocks.items in
    let index = c.loop-index.index in
    let within : index ≤ length items = let below = c.loop-index.invariant.within in omega arith in
    let low : (k : ℕ) (d : Block) → k < index → (get_or items k d).key < c.args.block.key =
    λ k d early. elim c.loop-index-test.branch [
      | then-loop-index-test+else-index-block w ↦
          low-before items index (index - 1) c.args.block.key w.index.result.now c.args.self.now.rises w.loop-index-test.true within (let some = w.loop-index-test.true in omega arith)
          w.index.ensures w.if-index-block.false k d early
      | else-loop-index-test w ↦ absurd (omega arith)
    ] in
    record {
      rises =
          keys_rise-insert items _ index c.args.block _ c.args.self.now.rises within low
          (above-all items index c.args.block.key c.index-2.result.now c.args.self.now.rises c.loop-index.invariant c.index-2.ensures c.if-index-block-2.false) c.insert.ensures.items;
      each = each-insert items _ index c.args.block _ c.args.self.now.each c.requires.block c.insert.ensures.items;
    }

pub returns-in_err-insert-clause-refused : goal.returns-in_err-insert-clause-refused
unfolding has
returns-in_err-insert-clause-refused c =
    where-refused c.from_residual.result (λ tail. ap (λ l. have_parts l (tail / 64) (tail % 64)) c.in_err-insert.ensures.items)

pub returns-clause-added : goal.returns-clause-added
unfolding has
returns-clause-added c = λ tail.
    let items = c.args.self.now.blocks.items in
    ap (λ l. have_parts l (tail / 64) (tail % 64)) c.in_ok-insert.ensures.items
    ∙ parts-insert items c.loop-index.index c.args.block (tail / 64) (tail % 64)
    ∙ ap (λ b. have_parts items (tail / 64) (tail % 64) || b) (parts-one c.args.block tail)
