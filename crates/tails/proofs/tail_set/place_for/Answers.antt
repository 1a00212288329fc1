-- Half of the blocks between two indices is left each time.
use Rattle.std.proofs.Common.{◌+◌, ◌-◌, ◌/◌, ◌<◌, arith}
use Rattle.tails.proofs.PlaceLemmas.{between-earlier, between-later, between-none}
use Rattle.tails.proofs.tail_set.place_for.Goals as goal

pub loop-low-preserved-then-blocks-middle : goal.loop-low-preserved-then-blocks-middle
loop-low-preserved-then-blocks-middle c =
    let low = c.loop-low.low in
    let high = c.loop-low.high in
    let middle : low + (high - low) / 2 < high = let more = c.loop-low-test.true in omega arith in
    between-later c.args.blocks.now low high c.args.key (low + (high - low) / 2) c.requires c.loop-low.invariant middle c.if-blocks-middle.true

pub loop-low-preserved : goal.loop-low-preserved
loop-low-preserved c =
    let low = c.loop-low.low in
    let high = c.loop-low.high in
    let middle : low + (high - low) / 2 < high = let more = c.loop-low-test.true in omega arith in
    between-earlier c.args.blocks.now low high c.args.key (low + (high - low) / 2) c.requires c.loop-low.invariant (omega arith) middle c.if-blocks-middle.false

pub returns : goal.returns
returns c = between-none c.args.blocks.now c.loop-low.low c.loop-low.high c.args.key c.loop-low.invariant c.loop-low-test.false
