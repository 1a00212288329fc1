-- The first cells are written.
use Rattle.std.proofs.Common.{◌≡◌, length, map, take}
use Rattle.std.specs.Prelude.{if◌then◌else◌}
use Rattle.lane_board.specs.FullRows.{columns}
use Rattle.well.specs.Well.{filled}
use Rattle.report.proofs.grey.grey_row.Given as goal

abbrev pub invariant-loop-x : goal.invariant-loop-x
invariant-loop-x l = (length l.row ≡ 10) × (take l.x l.row ≡ map (λ x. if filled l.well x l.y then 8 else 0) (take l.x columns))
