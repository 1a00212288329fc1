-- The pivots were widened so many times, and each time fewer are missing.
use Rattle.std.proofs.Common.{◌≡◌, ℕ, ◌-◌, ◌*◌}
use Rattle.lane_board.specs.Board.{field_of}
use Rattle.lane_board.specs.CellCount.{cell_count}
use Rattle.place_sets.specs.Shifts.{widened_by}
use Rattle.place_sets.proofs.spreading.spread.Given as goal

abbrev pub invariant-rounds : goal.invariant-rounds
invariant-rounds g l = (rounds : ℕ) × (field_of l.reached ≡ widened_by rounds l.shifts g.row.N (field_of l.free) (field_of l.from))

abbrev pub decreases-rounds : goal.decreases-rounds
decreases-rounds g l = 10 * g.row.N - cell_count (field_of l.reached) g.row.N
