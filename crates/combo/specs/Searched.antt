-- Positions in which it is known that no run is so long.
use Rattle.std.specs.Prelude.{◌≡◌, ℕ, ◌≤◌, List, Option, Some, IfSome, All}
use Rattle.lane_board.specs.Field.{Field}
use Rattle.srs.specs.declared.piece.Piece.{Piece}
use Rattle.srs.specs.Kick.{Table}
use Rattle.well.specs.Well.{filled}
use Rattle.moves.specs.declared.key.DropMode.{DropMode}
use Rattle.hold_queue.specs.declared.hand.Hand.{Hand}
use Rattle.hold_queue.specs.declared.hold.Hold.{Hold}
use Rattle.hold_queue.specs.Hand.{pieces_at}
use Rattle.combo.specs.declared.searched.SearchedPosition.{SearchedPosition}
use Rattle.combo.specs.First.{AreShorter, IsTakenRun}

-- an entry says of a field and the pieces at hand that runs are shorter
pub record SaysShorter (entry : Option SearchedPosition) (F : Field) (hand : Hand) (count : ℕ) : Type 0 where
  pub position : SearchedPosition
  pub there : entry ≡ Some position
  pub field : filled position.well ≡ F
  pub at_hand : position.hand ≡ hand
  pub short : position.count ≤ count

-- the runs of the pieces at hand are shorter in the field
abbrev pub HasShorterRuns : Table → DropMode → Hold → List Piece → SearchedPosition → Type 0
HasShorterRuns table mode hold queue position =
    AreShorter (IsTakenRun table mode (filled position.well) hold (pieces_at queue position.hand)) position.count

-- what is kept is true
abbrev pub HaveShorterRuns : Table → DropMode → Hold → List Piece → List (Option SearchedPosition) → Type 0
HaveShorterRuns table mode hold queue entries =
    All (λ entry. IfSome entry (HasShorterRuns table mode hold queue)) entries
