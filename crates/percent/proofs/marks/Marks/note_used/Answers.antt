-- One tiling more.
use Rattle.std.proofs.Common.{◌<◌, ◌+◌, ◌/◌, length, arith}
use Rattle.std.proofs.lemmas.Nat.{div_below}
use Rattle.lane_board.specs.Field.{Field}
use Rattle.empty_cells.specs.Empties.{empty_cells}
use Rattle.percent.proofs.BuildingLemmas.{using-ends, using-more, using-starts}
use Rattle.percent.proofs.MarkLemmas.{all_set}
use Rattle.percent.proofs.marks.Marks.note_used.Goals as goal

pub loop-index-init : goal.loop-index-init
loop-index-init c =
    using-starts c.args.mark.now.tilings.tilings.items (empty_cells c.args.self.now.cells) c.args.self.now.drops c.weights_of-weights.result c.sums_of-open.result.0 c.sums_of-open.result.1 c.args.used.now.items c.requires.size

pub loop-index-preserved : goal.loop-index-preserved
loop-index-preserved c =
    let marks = c.args.self.now in
    let E : Field = empty_cells marks.cells in
    let list = c.args.mark.now.tilings.tilings.items in
    let i = c.loop-index.index in
    let size = c.args.mark.now.tilings.tilings.ok in
    let within : i < length list = omega (arith, c.loop-index-test.true, size) in
    using-more list E marks.drops c.weights_of-weights.result c.sums_of-open.result.0 c.sums_of-open.result.1 c.args.used.now.items c.loop-index.used.items i _ c.served_among-served.result c.index.result.now c.or_some.result c.or_some-in-loop-index.result
    c.index-tiling.result.now within c.index-tiling.ensures c.index.ensures c.or_some.ensures c.or_some-in-loop-index.ensures (λ unused k few. all_set k few) c.served_among-served.ensures c.loop-index.invariant

pub returns-clause-used : goal.returns-clause-used
returns-clause-used c = λ k within.
    let size = c.args.mark.now.tilings.tilings.ok in
    using-ends c.args.self.now c.args.mark.now c.args.left c.args.hands.now c.weights_of-weights.result (length c.args.hands.now / 64 + 1) c.sums_of-open.result.0 c.sums_of-open.result.1 c.args.used.now.items c.loop-index.used.items c.loop-index.index k
    (omega (arith, c.loop-index-test.false, size)) (div_below k (length c.args.hands.now / 64 + 1) 64 (omega arith) (omega (arith, within))) c.sums_of-open.ensures c.loop-index.invariant within

pub returns-clause-size : goal.returns-clause-size
returns-clause-size c = c.loop-index.invariant.size
