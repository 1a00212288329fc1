-- The longest run that a queue permits.
use Rattle.std.specs.Prelude.{◌≡◌, ◌≢◌, ◌≤◌, List, length, Option}
use Rattle.std.specs.declared.cmp.Ordering.TheVariants.{Less}
use Rattle.lane_board.specs.Field.{Field}
use Rattle.srs.specs.declared.piece.Piece.{Piece}
use Rattle.srs.specs.declared.placement.Placement.{Placement}
use Rattle.srs.specs.Kick.{Table}
use Rattle.srs.specs.Order.{sequence_cmp}
use Rattle.moves.specs.declared.key.DropMode.{DropMode}
use Rattle.hold_queue.specs.declared.hold.Hold.{Hold}
use Rattle.hold_queue.specs.Permits.{Permits}
use Rattle.problem.specs.Runs.{Runs}
use Rattle.problem.specs.Solution.{pieces_of}

-- a run whose pieces the queue and the held piece permit
pub record IsPermittedRun (table : Table) (mode : DropMode) (F : Field) (hold : Hold) (queue : List Piece)
    (held : Option Piece) (run : List Placement) : Type 0 where
  pub runs : Runs table mode F run
  pub permitted : Permits hold queue held (pieces_of run)

-- no permitted run is longer, and none of those that are as long comes before it
pub record IsLongest (table : Table) (mode : DropMode) (F : Field) (hold : Hold) (queue : List Piece)
    (held : Option Piece) (run : List Placement) : Type 0 where
  pub permitted : IsPermittedRun table mode F hold queue held run
  pub longest : (other : List Placement) → IsPermittedRun table mode F hold queue held other →
      length other ≤ length run
  pub least : (other : List Placement) → IsPermittedRun table mode F hold queue held other →
      length other ≡ length run → sequence_cmp other run ≢ Less
