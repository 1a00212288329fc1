-- One tiling more.
use Rattle.std.proofs.Common.{◌<◌, length, arith}
use Rattle.std.proofs.lemmas.Nat.{div_below}
use Rattle.lane_board.specs.Field.{Field}
use Rattle.empty_cells.specs.Empties.{empty_cells}
use Rattle.percent.proofs.BuildingLemmas.{pending-ends, pending-more, pending-starts, using-ends, using-more, using-starts}
use Rattle.percent.proofs.marks.Marks.unserved.Goals as goal

pub loop-index-init : goal.loop-index-init
loop-index-init c = (
  pending-starts c.args.mark.now.tilings.tilings.items (empty_cells c.args.self.now.cells) c.args.self.now.drops c.weights_of-weights.result c.sums_of-open.result.0 c.lowest-all.result c.sums_of-open.result.1 c.bits_without-pending.result c.bits_without-pending.ensures.bits,
  using-starts c.args.mark.now.tilings.tilings.items (empty_cells c.args.self.now.cells) c.args.self.now.drops c.weights_of-weights.result c.sums_of-open.result.0 c.sums_of-open.result.1 c.args.used.now.items c.requires.size,
)

pub loop-index-preserved : goal.loop-index-preserved
loop-index-preserved c =
    let marks = c.args.self.now in
    let E : Field = empty_cells marks.cells in
    let list = c.args.mark.now.tilings.tilings.items in
    let weights = c.weights_of-weights.result in
    let allowed = c.sums_of-open.result.0 in
    let open_hands = c.sums_of-open.result.1 in
    let i = c.loop-index.index in
    let size = c.args.mark.now.tilings.tilings.ok in
    let within : i < length list = omega (arith, c.loop-index-test.true, size) in (
      pending-more list E marks.drops weights allowed open_hands c.loop-index.pending i c.asked_about-asked.result c.served_among-served.result c.bits_without-pending-in-loop-index.result c.index-tiling.result.now within c.index-tiling.ensures
          c.asked_about-asked.ensures.pending c.served_among-served.ensures c.bits_without-pending-in-loop-index.ensures.bits c.loop-index.invariant.0,
      using-more list E marks.drops weights allowed open_hands c.args.used.now.items c.loop-index.used.items i c.asked_about-asked.result c.served_among-served.result c.index.result.now c.or_some-is_used.result c.or_some.result c.index-tiling.result.now
          within c.index-tiling.ensures c.index.ensures c.or_some-is_used.ensures c.or_some.ensures c.asked_about-asked.ensures.all c.served_among-served.ensures c.loop-index.invariant.1,
    )

pub returns-clause-stays : goal.returns-clause-stays
returns-clause-stays c = c.loop-index.invariant.1.stays

pub returns-clause-used : goal.returns-clause-used
returns-clause-used c = λ k within.
    let size = c.args.mark.now.tilings.tilings.ok in
    using-ends c.args.self.now c.args.mark.now c.args.left c.args.hands.now c.weights_of-weights.result 1 c.sums_of-open.result.0 c.sums_of-open.result.1 c.args.used.now.items c.loop-index.used.items c.loop-index.index k
    (omega (arith, c.loop-index-test.false, size)) (div_below k 1 64 (omega arith) (omega (arith, within, c.requires.hands))) c.sums_of-open.ensures c.loop-index.invariant.1 within

pub returns-clause-unserved : goal.returns-clause-unserved
returns-clause-unserved c = λ k within there.
    let size = c.args.mark.now.tilings.tilings.ok in
    pending-ends c.args.self.now c.args.mark.now c.args.left c.args.hands.now c.weights_of-weights.result c.sums_of-open.result.0 c.sums_of-open.result.1 c.loop-index.pending c.loop-index.index k
    (omega (arith, c.loop-index-test.false, size)) c.requires.hands c.sums_of-open.ensures c.loop-index.invariant.0 within there
