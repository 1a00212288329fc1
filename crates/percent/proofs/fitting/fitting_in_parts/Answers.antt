-- What fits of one part more.
use Rattle.std.proofs.Common.{sym, ◌∙◌, arith}
use Rattle.well.specs.Well.{filled}
use Rattle.tails.specs.TailSets.{has}
use Rattle.hands.specs.Numbers.{has_number}
use Rattle.percent.specs.GoodTails.{is_good_tail}
use Rattle.percent.proofs.FittingLemmas.{other-tails, part-tails, parts-end, parts-more, parts-start, same-asked}
use Rattle.percent.proofs.ListedTails.{hands-same, listed-same}
use Rattle.percent.proofs.fitting.fitting_in_parts.Goals as goal

pub loop-alloc-init : goal.loop-alloc-init
loop-alloc-init c =
    let p = c.args.position.now in
    let same = c.in_ok-rest.ensures in record {
      are_tails = λ tail there. c.requires.tails tail (sym (same tail) ∙ there);
      so_far = λ game. parts-start (is_good_tail c.args.tree.now game (filled p.well) p.rows c.args.left) c.args.tails.now c.none-fit.result c.in_ok-rest.rest c.none-fit.ensures.none same;
    }

pub hands-requires : goal.hands-requires
hands-requires c =
    part-tails c.args.tree.now c.loop-alloc.rest c.in_ok-part.part c.in_ok-part.others c.as_slice.result.now c.loop-alloc.invariant.are_tails c.in_ok-part.ensures.parts
    (listed-same c.in_ok-part.part c.in_ok-numbers.numbers.items c.as_slice.result.now c.as_slice.ensures.value c.in_ok-numbers.ensures)

pub loop-alloc-preserved : goal.loop-alloc-preserved
loop-alloc-preserved c =
    let p = c.args.position.now in
    let tree = c.args.tree.now in
    let rest = c.loop-alloc.rest in
    let part = c.in_ok-part.part in
    let others = c.in_ok-part.others in
    let numbers = c.as_slice-in-loop-alloc.result.now in
    let hands_are = hands-same tree c.as_slice.result.now c.in_ok-hands.hands.items numbers c.as_slice-in-loop-alloc-2.result.now
    (c.as_slice-in-loop-alloc.ensures.value ∙ sym c.as_slice.ensures.value) c.as_slice-in-loop-alloc-2.ensures.value c.in_ok-hands.ensures in
    let cut = c.in_ok-part.ensures.parts in record {
      are_tails = other-tails tree rest part others c.loop-alloc.invariant.are_tails cut;
      so_far = λ game.
          let good = is_good_tail tree game (filled p.well) p.rows c.args.left in
          parts-more good c.args.tails.now c.loop-alloc.fit c.in_ok-fit.fit rest part others c.in_ok-more.more cut
          (same-asked good (has_number numbers) (has part) (has c.in_ok-more.more)
          (listed-same part c.in_ok-numbers.numbers.items numbers c.as_slice-in-loop-alloc.ensures.value c.in_ok-numbers.ensures) (c.in_ok-more.ensures tree game hands_are))
          c.in_ok-fit.ensures (c.loop-alloc.invariant.so_far game);
    }

pub returns : goal.returns
returns c = λ game.
    let p = c.args.position.now in
    let count = c.block_count.ensures.value in
    let done = c.loop-alloc-test.false in
    parts-end (is_good_tail c.args.tree.now game (filled p.well) p.rows c.args.left) c.args.tails.now c.loop-alloc.fit c.loop-alloc.rest (omega (arith, count, done)) (c.loop-alloc.invariant.so_far game)
