-- The rows so far are written, and the garbage row is empty.
use Rattle.std.proofs.Common.{◌≡◌, ◌-◌, ◌*◌, ◌++◌, length, drop}
use Rattle.well.specs.Well.{filled}
use Rattle.fumen_pages.specs.Next.{empty_row}
use Rattle.report.specs.FumenLine.{grey_rows}
use Rattle.report.proofs.grey.grey_cells.Given as goal

abbrev pub invariant-loop-y : goal.invariant-loop-y
invariant-loop-y l = (length l.cells ≡ 240) × (drop (230 - 10 * l.y) l.cells ≡ grey_rows (filled l.well) l.y ++ empty_row)
