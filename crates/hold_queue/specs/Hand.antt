-- Hands: the pieces at hand as a held piece, if any, and how many pieces of the queue are drawn.
use Rattle.std.specs.Prelude.{◌≡◌, ℕ, ◌≤◌, ◌<◌, ◌⊎◌, ◌↔◌, List, [], ◌∷◌, ◌++◌, Option, Some, None, take, drop, length}
use Rattle.std.specs.Option.{option_to_list}
use Rattle.srs.specs.declared.piece.Piece.{Piece}
use Rattle.srs.specs.Piece.{piece_code}
use Rattle.hold_queue.specs.declared.hand.Hand.{Hand}
use Rattle.hold_queue.specs.declared.hand.Taken.{Taken}
use Rattle.hold_queue.specs.declared.hold.Hold.{Hold}
use Rattle.hold_queue.specs.AtHand.{Take}

-- the pieces at hand, where the queue is this one
unfoldable pub pieces_at : List Piece → Hand → List Piece
pieces_at queue hand = option_to_list hand.held ++ drop hand.drawn queue

-- the first of some pieces, or the second, and the others
abbrev pub TakesFirst : List Piece → Piece → List Piece → Type 0
TakesFirst pieces piece rest = pieces ≡ piece ∷ rest

abbrev pub TakesSecond : List Piece → Piece → List Piece → Type 0
TakesSecond pieces piece rest =
    (first : Piece) × (later : List Piece) × (pieces ≡ first ∷ piece ∷ later) × (rest ≡ first ∷ later)

-- two queues have the same first so many pieces
pub record HasSameFront (seen : ℕ) (queue other : List Piece) : Type 0 where
  pub same : take seen other ≡ take seen queue

-- a piece is taken so from a hand, also for each queue that begins with the pieces that are drawn then
pub record IsTakenBy (By : List Piece → Piece → List Piece → Type 0) (queue : List Piece) (hand : Hand)
    (taken : Taken) : Type 0 where
  pub later : hand.drawn ≤ taken.rest.drawn
  pub within : hand.drawn ≤ length queue → taken.rest.drawn ≤ length queue
  pub each : (other : List Piece) → HasSameFront taken.rest.drawn queue other
      → By (pieces_at other hand) taken.piece (pieces_at other taken.rest)

abbrev pub IsFirstAtHand : List Piece → Hand → Option Taken → Type 0
IsFirstAtHand queue hand None = pieces_at queue hand ≡ []
IsFirstAtHand queue hand (Some taken) = IsTakenBy TakesFirst queue hand taken

abbrev pub IsSecondAtHand : List Piece → Hand → Option Taken → Type 0
IsSecondAtHand queue hand None = length (pieces_at queue hand) ≤ 1
IsSecondAtHand queue hand (Some taken) = IsTakenBy TakesSecond queue hand taken

-- this piece is taken, and these are left
abbrev pub Leaves : List Piece → Option Taken → Piece → List Piece → Type 0
Leaves queue None piece rest = ⊥
Leaves queue (Some taken) piece rest = (taken.piece ≡ piece) × (pieces_at queue taken.rest ≡ rest)

-- the two are all ways to take a piece
pub record AreAllTakes (hold : Hold) (queue : List Piece) (hand : Hand) (one other : Option Taken) : Type 0 where
  pub each : (piece : Piece) (rest : List Piece)
      → (Leaves queue one piece rest ⊎ Leaves queue other piece rest) ↔ Take hold (pieces_at queue hand) piece rest

-- the piece of the one comes before that of the other, where there are two
abbrev pub AreInOrder : Option Taken → Option Taken → Type 0
AreInOrder None other = Unit {0}
AreInOrder (Some one) None = Unit {0}
AreInOrder (Some one) (Some other) = piece_code one.piece < piece_code other.piece
