-- Good tails: those with a good hand.
use Rattle.std.specs.Prelude.{ℕ, Bool}
use Rattle.lane_board.specs.Field.{Field}
use Rattle.srs.specs.declared.piece.Piece.{Piece}
use Rattle.tails.specs.declared.tree.TailTree.{TailTree}
use Rattle.tails.specs.Tails.{hand_at}
use Rattle.percent.specs.declared.game.Game.{Game}
use Rattle.percent.specs.GoodHands.{is_good, is_good_after}

-- with so many rows left and so many placements to come
unfoldable pub is_good_tail : TailTree → Game → Field → ℕ → ℕ → ℕ → Bool
is_good_tail tree game F rows left tail = is_good game F rows left (hand_at tree tail)

-- after this piece was placed, with so many placements to come then
unfoldable pub is_good_tail_after : TailTree → Game → Field → ℕ → Piece → ℕ → ℕ → Bool
is_good_tail_after tree game F rows piece left rest = is_good_after game F rows piece left (hand_at tree rest)
