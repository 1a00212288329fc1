-- The rows that were passed are packed.
use Rattle.well.specs.Well.{filled}
use Rattle.well.proofs.PackedBits.{IsPacked}
use Rattle.well.proofs.bits.cells_below.Given as goal

abbrev pub invariant-loop-y : goal.invariant-loop-y
invariant-loop-y l = IsPacked (filled l.well) l.rows_left l.y l.cells
