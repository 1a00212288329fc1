-- The rows between those of the cells.
use Rattle.std.proofs.Common.{◌∙◌, arith}
use Rattle.lane_board.specs.Lanes.{has_bit}
use Rattle.well.specs.Counts.{is_filled_row}
use Rattle.empty_cells.specs.Empties.{cells_by_column}
use Rattle.tiled_pieces.proofs.RowTests.{between_same}
use Rattle.tiled_pieces.proofs.laid.Laid.new.Goals as goal

pub invariant_of-result : goal.invariant_of-result
invariant_of-result c = record {
  in_columns = c.requires;
  light = omega (arith, c.ranges.weight.fits);
  rows = λ z low. c.between.ensures z low ∙ between_same (has_bit c.rows_of.result) (is_filled_row (cells_by_column c.args.cells)) z low c.rows_of.ensures;
}
