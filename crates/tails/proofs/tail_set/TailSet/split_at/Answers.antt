-- The blocks are cut in two.
use Rattle.std.proofs.Common.{◌≡◌, ◌||◌, All, length, take, drop, ap, sym, subst, ◌∙◌, arith, ◌/◌, ◌%◌}
use Rattle.std.proofs.lemmas.List.{length-drop, length-take}
use Rattle.std.proofs.lemmas.List.Elements.{All-drop, All-take}
use Rattle.tails.specs.Blocks.{have_parts, IsBlock, KeysRise}
use Rattle.tails.specs.TailSets.{block_count, has}
use Rattle.tails.proofs.OrderLemmas.{before-cut, behind-cut, keys_rise-drop, keys_rise-take}
use Rattle.tails.proofs.PartLemmas.{parts-cut}
use Rattle.tails.proofs.tail_set.TailSet.split_at.Goals as goal

pub invariant_of-result : goal.invariant_of-result
invariant_of-result c =
    let blocks = c.args.self.now.blocks.items in
    let first : c.in_ok-first.first.items ≡ take c.args.count blocks = before-cut blocks c.as_slice-blocks.result.now c.in_ok-first.first.items c.args.count c.min-cut.result c.in_ok-first.ensures.items c.as_slice-blocks.ensures.value (omega (arith, c.min-cut.ensures, c.len.ensures)) in record {
      rises = subst KeysRise (sym first) (keys_rise-take blocks c.args.count c.args.self.now.rises);
      each = subst (All IsBlock) (sym first) (All-take IsBlock c.args.count blocks c.args.self.now.each);
    }

pub invariant_of-result-2 : goal.invariant_of-result-2
invariant_of-result-2 c =
    let blocks = c.args.self.now.blocks.items in
    let others : c.in_ok-others.others.items ≡ drop c.args.count blocks = behind-cut blocks c.as_slice-blocks.result.now c.in_ok-others.others.items c.args.count c.min-cut.result c.in_ok-others.ensures.items c.as_slice-blocks.ensures.value (omega (arith, c.min-cut.ensures, c.len.ensures)) in record {
      rises = subst KeysRise (sym others) (keys_rise-drop blocks c.args.count c.args.self.now.rises);
      each = subst (All IsBlock) (sym others) (All-drop IsBlock c.args.count blocks c.args.self.now.each);
    }

pub returns-clause-few : goal.returns-clause-few
unfolding block_count
returns-clause-few c =
    let blocks = c.args.self.now.blocks.items in
    let first : c.in_ok-first.first.items ≡ take c.args.count blocks = before-cut blocks c.as_slice-blocks.result.now c.in_ok-first.first.items c.args.count c.min-cut.result c.in_ok-first.ensures.items c.as_slice-blocks.ensures.value (omega (arith, c.min-cut.ensures, c.len.ensures)) in
    omega (arith, ap length first, length-take c.args.count blocks)

pub returns-clause-parts : goal.returns-clause-parts
unfolding has
returns-clause-parts c = λ tail.
    let blocks = c.args.self.now.blocks.items in
    let first : c.in_ok-first.first.items ≡ take c.args.count blocks = before-cut blocks c.as_slice-blocks.result.now c.in_ok-first.first.items c.args.count c.min-cut.result c.in_ok-first.ensures.items c.as_slice-blocks.ensures.value (omega (arith, c.min-cut.ensures, c.len.ensures)) in
    let others : c.in_ok-others.others.items ≡ drop c.args.count blocks = behind-cut blocks c.as_slice-blocks.result.now c.in_ok-others.others.items c.args.count c.min-cut.result c.in_ok-others.ensures.items c.as_slice-blocks.ensures.value (omega (arith, c.min-cut.ensures, c.len.ensures)) in
    parts-cut blocks c.args.count (tail / 64) (tail % 64)
    ∙ (λ x. have_parts (sym first x) (tail / 64) (tail % 64) || have_parts (sym others x) (tail / 64) (tail % 64))

pub returns-clause-size : goal.returns-clause-size
unfolding block_count
returns-clause-size c =
    let blocks = c.args.self.now.blocks.items in
    let others : c.in_ok-others.others.items ≡ drop c.args.count blocks = behind-cut blocks c.as_slice-blocks.result.now c.in_ok-others.others.items c.args.count c.min-cut.result c.in_ok-others.ensures.items c.as_slice-blocks.ensures.value (omega (arith, c.min-cut.ensures, c.len.ensures)) in
    ap length others ∙ length-drop c.args.count blocks
