-- A block that is put at the end, or left to be put where its key belongs.
use Rattle.std.proofs.Common.{ℕ, ◌<◌, ◌-◌, ◌||◌, ap, ◌∙◌, length, get_or, arith, ◌/◌, ◌%◌}
use Rattle.tails.specs.declared.block.Block.{Block}
use Rattle.tails.specs.Blocks.{have_parts}
use Rattle.tails.specs.TailSets.{has}
use Rattle.tails.proofs.AddSteps.{before-last, each-push, keys_rise-push, is_block, joined-each, joined-order, joined-parts, joins, low-before, none-in, or_false, where-refused}
use Rattle.tails.proofs.PartLemmas.{tails-push, parts-one}
use Rattle.tails.proofs.tail_set.TailSet.add.Goals as goal
use Rattle.tails.proofs.tail_set.TailSet.add.Goals.{then-count-eq0-via-then-count-eq0, then-count-eq0-via-else-count-eq0+then-index-block}

pub returns-then-block-eq0-clause-added : goal.returns-then-block-eq0-clause-added
returns-then-block-eq0-clause-added c = λ tail. or_false _ _ (none-in c.args.block tail c.if-block-eq0.true)

pub invariant_of-self : goal.invariant_of-self
invariant_of-self c =
    let items = c.args.self.now.blocks.items in
    let low : (k : ℕ) (d : Block) → k < length items → (get_or items k d).key < c.args.block.key =
    λ k d below. elim c.then-count-eq0.branch [
      | then-count-eq0-via-then-count-eq0 w ↦ absurd (omega arith)
      | then-count-eq0-via-else-count-eq0+then-index-block w ↦
          low-before items (length items) (c.len-count.result - 1) c.args.block.key w.index.result.now c.args.self.now.rises (omega arith) (omega arith) (omega arith) w.index.ensures w.if-index-block.true k d below
    ] in
    record {
      rises = keys_rise-push items _ c.args.block _ c.args.self.now.rises low c.push.ensures.items;
      each = each-push items _ c.args.block _ c.args.self.now.each (is_block c.args.block c.requires (omega arith) c.if-block-eq0.false) c.push.ensures.items;
    }

pub returns-in_err-push-clause-refused : goal.returns-in_err-push-clause-refused
unfolding has
returns-in_err-push-clause-refused c = where-refused c.from_residual.result (λ tail. ap (λ l. have_parts l (tail / 64) (tail % 64)) c.in_err-push.ensures.items)

pub returns-then-count-eq0-clause-added : goal.returns-then-count-eq0-clause-added
unfolding has
returns-then-count-eq0-clause-added c = λ tail.
    ap (λ l. have_parts l (tail / 64) (tail % 64)) c.in_ok-push.ensures.items ∙ tails-push c.args.self.now.blocks.items c.args.block tail

pub invariant_of-self-then-index-block-2 : goal.invariant_of-self-then-index-block-2
invariant_of-self-then-index-block-2 c =
    let items = c.args.self.now.blocks.items in
    let last = c.len-count.result - 1 in
    let within : last < length items = omega arith in
    let join = joins items last c.index_mut.result.now c.index-then-index-block-2.result.now c.index-2.result.now c.args.block c.bits_of_either.result within
    c.index_mut.ensures.value c.index-then-index-block-2.ensures c.index-2.ensures c.if-index-block-2.true (omega arith) c.bits_of_either.ensures in
    record {
      rises = joined-order items last c.index_mut.result.now c.args.block _ c.args.self.now.rises join;
      each = joined-each items last c.index_mut.result.now c.args.block _ c.args.self.now.each join;
    }

pub returns-then-index-block-2-clause-added : goal.returns-then-index-block-2-clause-added
unfolding has
returns-then-index-block-2-clause-added c = λ tail.
    let items = c.args.self.now.blocks.items in
    let last = c.len-count.result - 1 in
    let within : last < length items = omega arith in
    let join = joins items last c.index_mut.result.now c.index-then-index-block-2.result.now c.index-2.result.now c.args.block c.bits_of_either.result within
    c.index_mut.ensures.value c.index-then-index-block-2.ensures c.index-2.ensures c.if-index-block-2.true (omega arith) c.bits_of_either.ensures in
    joined-parts items last c.index_mut.result.now c.args.block _ (tail / 64) (tail % 64) join
    ∙ ap (λ b. have_parts items (tail / 64) (tail % 64) || b) (parts-one c.args.block tail)

pub insert_block-requires-clause-block : goal.insert_block-requires-clause-block
insert_block-requires-clause-block c = is_block c.args.block c.requires (omega arith) c.if-block-eq0.false

pub insert_block-requires-clause-before : goal.insert_block-requires-clause-before
insert_block-requires-clause-before c =
    before-last c.args.self.now.blocks.items (c.len-count.result - 1) c.args.block.key c.index.result.now c.index-2.result.now (omega arith) (omega arith) c.index.ensures c.if-index-block.false c.index-2.ensures
    c.if-index-block-2.false
