-- The cells so far are those of the field.
use Rattle.std.proofs.Common.{◌≡◌}
use Rattle.well.specs.Well.{filled}
use Rattle.pc_selfrun.proofs.ColumnField.{cells_before}
use Rattle.pc_selfrun.proofs.column.column_field.Given as goal

abbrev pub invariant-cells : goal.invariant-cells
invariant-cells l = filled l.well ≡ cells_before l.index l.column
