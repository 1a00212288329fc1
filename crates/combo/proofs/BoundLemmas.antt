-- How long a run can be.
use Rattle.std.proofs.lemmas.Grind.{common_steps}
use Rattle.std.proofs.Common.{◌≡◌, ℕ, ◌/◌, ◌≤◌, ◌<◌, min, List, length, arith}
use Rattle.lane_board.specs.Field.{Field}
use Rattle.lane_board.specs.CellCount.{cell_count}
use Rattle.srs.specs.declared.piece.Piece.{Piece}
use Rattle.srs.specs.declared.placement.Placement.{Placement}
use Rattle.srs.specs.Kick.{Table}
use Rattle.moves.specs.declared.key.DropMode.{DropMode}
use Rattle.hold_queue.specs.declared.hold.Hold.{Hold}
use Rattle.combo.specs.First.{AreShorter, IsTakenRun}
use Rattle.hold_queue.proofs.CallerLemmas.{takes-length}
use Rattle.problem.proofs.CallerLemmas.{runs_take_cells}

-- a run takes the pieces at hand
taken_length : (table : Table) (mode : DropMode) (F : Field) (hold : Hold) (hand : List Piece) (run : List Placement) → IsTakenRun table mode F hold hand run → length run ≤ length hand
taken_length table mode F hold hand run member = grind (arith, common_steps, takes-length)

-- so the cells and the pieces at hand bound it
pub within_cells : (table : Table) (mode : DropMode) (F : Field) (hold : Hold) (hand : List Piece) (most : ℕ) (run : List Placement) → most ≡ min (length hand) (cell_count F 23 / 6)
    → IsTakenRun table mode F hold hand run → length run ≤ most
within_cells table mode F hold hand most run is member = omega (arith, is, taken_length table mode F hold hand run member, runs_take_cells table mode F run member.runs)

-- more than a bound
pub above_bound : (table : Table) (mode : DropMode) (F : Field) (hold : Hold) (hand : List Piece) (most count : ℕ)
    → ((run : List Placement) → IsTakenRun table mode F hold hand run → length run ≤ most) → most < count → AreShorter (IsTakenRun table mode F hold hand) count
above_bound table mode F hold hand most count bounds above = record { each = λ run member. omega (arith, bounds run member, above) }
