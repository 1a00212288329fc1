-- What an entry for the position says is true.
use Rattle.std.proofs.Common.{ap, ◌∙◌}
use Rattle.well.specs.CellBits.{cells_in_bits}
use Rattle.percent.proofs.KeptLemmas.{bits-filled, slot-found, slot-missed, slot-true}
use Rattle.percent.proofs.kept.Kept.known.Goals as goal

pub returns-then-slot-left-clause-found : goal.returns-then-slot-left-clause-found
returns-then-slot-left-clause-found c =
    let kept = c.args.self.now in
    let slot = slot-true kept.tree kept.game kept.slots c.hash_of.result c.in-Some.slot.now kept.are_true c.in-Some.ensures in
    slot-found kept.tree kept.game c.in-Some.slot.now c.args.position.now c.args.left slot
    (ap cells_in_bits c.if-slot-cells.true ∙ bits-filled c.args.position.now c.cells_below-cells.result c.cells_below-cells.ensures) c.if-slot-position.true c.if-slot-left.true

pub returns-then-slot-left-clause-missed : goal.returns-then-slot-left-clause-missed
returns-then-slot-left-clause-missed c =
    let kept = c.args.self.now in
    let slot = slot-true kept.tree kept.game kept.slots c.hash_of.result c.in-Some.slot.now kept.are_true c.in-Some.ensures in
    slot-missed kept.tree kept.game c.in-Some.slot.now c.args.position.now c.args.left slot
    (ap cells_in_bits c.if-slot-cells.true ∙ bits-filled c.args.position.now c.cells_below-cells.result c.cells_below-cells.ensures) c.if-slot-position.true c.if-slot-left.true
