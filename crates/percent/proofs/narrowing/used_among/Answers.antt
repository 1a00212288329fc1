-- One tiling more, if it is used.
use Rattle.std.proofs.Common.{arith}
use Rattle.percent.proofs.BuildingLemmas.{has_used-ends, has_used-more, has_used-pass, has_used-starts}
use Rattle.percent.proofs.narrowing.used_among.Goals as goal
use Rattle.percent.proofs.narrowing.used_among.Goals.{then-used-index+in_ok-push, else-used-index}

pub loop-index-init : goal.loop-index-init
loop-index-init c = has_used-starts c.args.list.now.tilings.items c.args.used.now c.in_ok-tilings.tilings.items

pub loop-index-preserved : goal.loop-index-preserved
loop-index-preserved c =
    let list = c.args.list.now.tilings.items in
    let used = c.args.used.now in
    let i = c.loop-index.index in
    elim c.if-used-index.branch [
      | then-used-index+in_ok-push w ↦ rw w.tilings-is (rw w.in_ok-push.ensures.items (has_used-more list used c.loop-index.tilings.items i w.index.result.now w.index.ensures c.loop-index.invariant))
      | else-used-index w ↦ rw w.tilings-is (has_used-pass list used c.loop-index.tilings.items i w.if-used-index.false c.loop-index.invariant)
    ]

pub returns : goal.returns
returns c = has_used-ends c.args.list.now.tilings.items c.args.used.now c.loop-index.tilings.items c.loop-index.index (omega (arith, c.loop-index-test.false, c.requires)) c.loop-index.invariant
