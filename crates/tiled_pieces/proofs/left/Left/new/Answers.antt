-- The filled cells in the rows.
use Rattle.std.proofs.Common.{◌&&◌, ap, ◌∙◌}
use Rattle.empty_cells.specs.Empties.{cells_by_column}
use Rattle.empty_cells.proofs.CallerLemmas.{by_column_at}
use Rattle.tiled_pieces.specs.Words.{is_filled}
use Rattle.tiled_pieces.proofs.FloorTests.{above_same}
use Rattle.tiled_pieces.proofs.left.Left.new.Goals as goal

pub invariant_of-result : goal.invariant_of-result
invariant_of-result c = record {
  in_columns = c.requires;
  has_rows = c.rows_of-rows.ensures;
  has_floors = c.floors.ensures;
  has_covered = λ x y column low. c.covered.ensures x y column low
      ∙ ap (λ b. c.args.drops && b) (above_same (cells_by_column c.filled-filled.result) (is_filled (cells_by_column c.args.cells)) 8 x y (λ z low. by_column_at c.filled-filled.result x z low ∙ c.filled-filled.ensures x z column low));
}
