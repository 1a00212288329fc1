-- The rows so far are written, from the top one down.
use Rattle.std.proofs.Common.{◌≡◌, ◌+◌, ◌*◌, ◌++◌}
use Rattle.arrayvec.specs.ArrayVec.{array_vec_len}
use Rattle.well.specs.Well.{filled}
use Rattle.report.specs.Grid.{grid_rows}
use Rattle.report.proofs.grid.picture.Given as goal

abbrev pub invariant-loop-y : goal.invariant-loop-y
invariant-loop-y l =
    (grid_rows (filled l.well) l.placement l.initial.rows ≡ l.picture.items ++ grid_rows (filled l.well) l.placement l.y)
    × (array_vec_len l.picture + 11 * l.y ≡ 11 * l.initial.rows)
