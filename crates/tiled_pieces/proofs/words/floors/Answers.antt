-- One row more.
use Rattle.std.proofs.Common.{◌+◌, ◌*◌, not, ◌&&◌, ap, ap₂, ◌∙◌, arith}
use Rattle.empty_cells.specs.Empties.{cells_by_column}
use Rattle.tiled_pieces.proofs.FloorSteps.{floors_next, floors_start, row_bit}
use Rattle.tiled_pieces.proofs.words.floors.Goals as goal

pub loop-y-init : goal.loop-y-init
loop-y-init c = floors_start (cells_by_column c.args.cells) c.args.filled c.requires.filled

pub loop-y-preserved : goal.loop-y-preserved
loop-y-preserved c = floors_next (cells_by_column c.args.cells) c.loop-y.floors c.without.result c.loop-y.y (omega (arith, c.loop-y-test.true))
    (λ x r column low. c.without.ensures.bits (8 * x + r) ∙ ap₂ ◌&&◌ (row_bit c.loop-y.y x r (omega (arith, c.loop-y-test.true)) column low) (ap not (c.in_rows.ensures x r column low ∙ c.requires.rows r low)))
    c.loop-y.invariant

pub returns : goal.returns
returns c = λ x r column low. c.loop-y.invariant.found x r column low (omega (arith, low, c.loop-y-test.false))
