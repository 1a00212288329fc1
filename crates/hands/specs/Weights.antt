-- The weights of kinds, and what a table allows at the sums of the weights of pieces that are taken from a hand.
use Rattle.std.specs.Prelude.{◌≡◌, ℕ, zero, suc, ◌+◌, ◌/◌, ◌%◌, ◌<◌, ◌≤◌, true, false, List, [], ◌∷◌, length, slice_index}
use Rattle.lane_board.specs.Lanes.{has_bit}
use Rattle.srs.specs.declared.piece.Piece.{Piece}
use Rattle.srs.specs.Piece.{piece_code}
use Rattle.hold_queue.specs.declared.hold.Hold.{Hold}
use Rattle.hands.specs.Hands.{takes_all}

-- the sum of the weights of kinds
unfoldable pub weight_of : List ℕ → List Piece → ℕ
weight_of weights [] = 0
weight_of weights (piece ∷ more) = slice_index weights (piece_code piece) + weight_of weights more

-- The bit is set in what is allowed at the sum of the weights of any pieces, at most so many, that can be taken from
-- the hand.
pub record AllowsTaken (hold : Hold) (left hand : ℕ) (weights allowed : List ℕ) (bit : ℕ) : Type 0 where
  pub each : (pieces : List Piece) → 0 < length pieces → length pieces ≤ left → takes_all hold hand pieces ≡ true
      → has_bit (slice_index allowed (weight_of weights pieces)) bit ≡ true

-- the code of the piece at an index of a hand
unfoldable pub code_at : ℕ → ℕ → ℕ
code_at hand zero = hand % 8
code_at hand (suc i) = code_at (hand / 8) i

-- the sum of the weights of the first so many pieces of a hand
unfoldable pub first_weights : List ℕ → ℕ → ℕ → ℕ
first_weights weights zero hand = 0
first_weights weights (suc count) hand = slice_index weights (hand % 8) + first_weights weights count (hand / 8)

-- no bit is lost
pub record KeepsBits (old new : List ℕ) : Type 0 where
  pub each : (sum bit : ℕ) → has_bit (slice_index old sum) bit ≡ true → has_bit (slice_index new sum) bit ≡ true

-- One bit stands for so many hands side by side. Each of the first `count` hands is open with its bit, or this bit is set
-- at all sums of pieces that can be taken from it.
pub record AreNoted (hold : Hold) (left : ℕ) (hands weights : List ℕ) (size : ℕ) (allowed : List ℕ) (open_hands count : ℕ)
    : Type 0 where
  pub each : (k : ℕ) → k < count → has_bit open_hands (k / size) ≡ false
      → AllowsTaken hold left (slice_index hands k) weights allowed (k / size)
