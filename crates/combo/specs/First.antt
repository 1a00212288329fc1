-- The first of the runs of so many placements.
use Rattle.std.specs.Prelude.{◌≡◌, ◌≢◌, ℕ, ◌≤◌, ◌<◌, false, List, [], ◌∷◌, length, Option, Some, None}
use Rattle.std.specs.declared.cmp.Ordering.TheVariants.{Less}
use Rattle.lane_board.specs.Field.{Field}
use Rattle.srs.specs.Rising.{is_above}
use Rattle.srs.specs.declared.piece.Piece.{Piece}
use Rattle.srs.specs.declared.placement.Placement.{Placement}
use Rattle.srs.specs.Kick.{Table}
use Rattle.srs.specs.Order.{placement_cmp, sequence_cmp}
use Rattle.well.specs.Lock.{locked, rows_removed}
use Rattle.moves.specs.declared.key.DropMode.{DropMode}
use Rattle.moves.specs.Place.{IsPlace}
use Rattle.hold_queue.specs.declared.hand.Taken.{Taken}
use Rattle.hold_queue.specs.declared.hold.Hold.{Hold}
use Rattle.hold_queue.specs.AtHand.{Takes}
use Rattle.hold_queue.specs.Hand.{pieces_at}
use Rattle.problem.specs.Runs.{Runs}
use Rattle.problem.specs.Solution.{pieces_of}

-- one of them with so many placements, and none of them with as many comes before it
pub record IsFirst (IsMember : List Placement → Type 0) (count : ℕ) (run : List Placement) : Type 0 where
  pub member : IsMember run
  pub long : length run ≡ count
  pub first : (other : List Placement) → IsMember other → length other ≡ count → sequence_cmp other run ≢ Less

-- each of them has fewer placements than so many
pub record AreShorter (IsMember : List Placement → Type 0) (count : ℕ) : Type 0 where
  pub each : (run : List Placement) → IsMember run → length run < count

-- a run whose pieces are taken from the pieces at hand
pub record IsTakenRun (table : Table) (mode : DropMode) (F : Field) (hold : Hold) (hand : List Piece)
    (run : List Placement) : Type 0 where
  pub runs : Runs table mode F run
  pub taken : Takes hold hand (pieces_of run)

-- no placement; or first one of a taken piece that removes a row, and then a run of the pieces that are left
abbrev pub RunsOn : Table → DropMode → Hold → Field → List Piece → Taken → List Placement → Type 0
RunsOn table mode hold F queue taken [] = Unit {0}
RunsOn table mode hold F queue taken (placement ∷ rest) =
    (placement.piece ≡ taken.piece) × IsPlace table F mode placement × (1 ≤ rows_removed F placement)
    × IsTakenRun table mode (locked F placement) hold (pieces_at queue taken.rest) rest

-- no placement, or a first one that is not above a bound
abbrev pub IsUpTo : Option Placement → List Placement → Type 0
IsUpTo bound [] = Unit {0}
IsUpTo bound (placement ∷ rest) = is_above placement_cmp bound placement ≡ false

-- a run that goes on so, with a first placement that is not above a bound
abbrev pub RunsOnUpTo : Table → DropMode → Hold → Field → List Piece → Taken → Option Placement
    → List Placement → Type 0
RunsOnUpTo table mode hold F queue taken bound run = RunsOn table mode hold F queue taken run × IsUpTo bound run

-- the runs that begin with a taken piece, if there is one
abbrev pub RunsOnIf : Table → DropMode → Hold → Field → List Piece → Option Taken → List Placement → Type 0
RunsOnIf table mode hold F queue None run = run ≡ []
RunsOnIf table mode hold F queue (Some taken) run = RunsOn table mode hold F queue taken run
