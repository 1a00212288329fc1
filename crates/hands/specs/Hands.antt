-- Pieces at hand as numbers: each has three bits, its code, and the first piece has the lowest.
use Rattle.std.specs.Prelude.{ℕ, ◌+◌, ◌*◌, ◌/◌, ◌%◌, Bool, true, false, ◌&&◌, ◌||◌, ◌==◌, Option, List, [], ◌∷◌, take}
use Rattle.srs.specs.declared.piece.Piece.{Piece}
use Rattle.srs.specs.Piece.{piece_code}
use Rattle.hold_queue.specs.declared.hold.Hold.{Hold}
use Rattle.hold_queue.specs.declared.hold.Hold.TheVariants.{Allowed, Avoided}
use Rattle.hold_queue.specs.AtHand.{at_hand, taken_from}

unfoldable pub number_of : List Piece → ℕ
number_of [] = 0
number_of (piece ∷ pieces) = piece_code piece + 8 * number_of pieces

-- the number of the pieces at hand from which so many are taken
unfoldable pub hand_of : Hold → Option Piece → ℕ → List Piece → ℕ
hand_of hold held count queue = number_of (take (taken_from hold count) (at_hand hold held queue))

abbrev pub allows_hold : Hold → Bool
allows_hold Allowed = true
allows_hold Avoided = false

-- without the first piece, and without the second
unfoldable pub without_first : ℕ → ℕ
without_first hand = hand / 8

unfoldable pub without_second : ℕ → ℕ
without_second hand = hand / 64 * 8 + hand % 8

-- a piece with this code can be taken so that a test passes of what is left
unfoldable pub takes : Hold → ℕ → (ℕ → Bool) → ℕ → Bool
takes hold code goes_on hand =
    (hand % 8 == code && goes_on (without_first hand))
    || (allows_hold hold && (hand / 8 % 8 == code && goes_on (without_second hand)))

-- the kinds of these pieces can be taken from the hand one after the other
unfoldable pub takes_all : Hold → ℕ → List Piece → Bool
takes_all hold hand [] = true
takes_all hold hand (piece ∷ more) = takes hold (piece_code piece) (λ rest. takes_all hold rest more) hand
