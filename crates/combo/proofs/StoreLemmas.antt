-- What a store says is true.
use Rattle.std.proofs.Common.{◌≡◌, ◌≤◌, ℕ, Option, Some}
use Rattle.std.specs.Prelude.{Bool, IsTrue}
use Rattle.lane_board.specs.Field.{Field}
use Rattle.well.specs.Well.{filled}
use Rattle.hold_queue.specs.declared.hand.Hand.{Hand}
use Rattle.combo.specs.declared.searched.SearchedPosition.{SearchedPosition}
use Rattle.combo.specs.Searched.{SaysShorter}

-- an entry that is asked
pub says_shorter : (result : Bool) (entry : Option SearchedPosition) (position : SearchedPosition) (F : Field) (hand : Hand) (count : ℕ) → entry ≡ Some position
    → (IsTrue result → filled position.well ≡ F) → (IsTrue result → position.hand ≡ hand) → (IsTrue result → position.count ≤ count) → IsTrue result → SaysShorter entry F hand count
says_shorter result entry position F hand count is field at_hand short true = record { position = position; there = is; field = field true; at_hand = at_hand true; short = short true }
