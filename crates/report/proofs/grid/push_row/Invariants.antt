-- The letters of the first columns are written.
use Rattle.std.proofs.Common.{◌≡◌, ◌+◌, ◌++◌, map, take}
use Rattle.arrayvec.specs.ArrayVec.{array_vec_len}
use Rattle.lane_board.specs.FullRows.{columns}
use Rattle.well.specs.Well.{filled}
use Rattle.report.specs.Grid.{grid_letter}
use Rattle.report.proofs.grid.push_row.Given as goal

abbrev pub invariant-loop-x : goal.invariant-loop-x
invariant-loop-x l =
    (l.picture.items ≡ l.initial.picture.items ++ map (grid_letter (filled l.well) l.placement l.y) (take l.x columns))
    × (array_vec_len l.picture ≡ array_vec_len l.initial.picture + l.x)
