-- Which pieces a queue lets a player play, with a place for a held piece or without.
use Rattle.std.specs.Prelude.{Bool, true, false, ◌&&◌, ◌||◌, ◌==◌, Option, Some, None, List, [], ◌∷◌, Contains}
use Rattle.std.specs.List.{list_any}
use Rattle.srs.specs.declared.piece.Piece.{Piece}
use Rattle.srs.specs.Piece.{piece_code}
use Rattle.hold_queue.specs.declared.hold.Hold.{Hold}
use Rattle.hold_queue.specs.declared.hold.Hold.TheVariants.{Allowed, Avoided}

-- The four ways to get the next piece from a queue and a held piece, if any; then the piece that is played, the queue
-- that is left, and what is held afterwards.
pub data Way : Hold → List Piece → Option Piece → Piece → List Piece → Option Piece → Type 0 where
  plain : {hold : Hold} {piece : Piece} {queue : List Piece} {held : Option Piece}
      → Way hold (piece ∷ queue) held piece queue held
  exchange : {first : Piece} {queue : List Piece} {piece : Piece}
      → Way Allowed (first ∷ queue) (Some piece) piece queue (Some first)
  first_hold : {first : Piece} {piece : Piece} {queue : List Piece}
      → Way Allowed (first ∷ piece ∷ queue) None piece queue (Some first)
  last : {piece : Piece} → Way Allowed [] (Some piece) piece [] None

-- some choice of ways plays these pieces, one after the other, from a queue and a held piece; pieces may be left over
abbrev pub Permits : Hold → List Piece → Option Piece → List Piece → Type 0
Permits hold queue held [] = Unit {0}
Permits hold queue held (piece ∷ pieces) =
    (rest : List Piece) × (after : Option Piece) × Way hold queue held piece rest after × Permits hold rest after pieces

-- one of these queues permits the pieces
abbrev pub SomePermits : Hold → List (List Piece) → Option Piece → List Piece → Type 0
SomePermits hold queues held pieces = (queue : List Piece) × Contains queues queue × Permits hold queue held pieces

-- both are the same piece
abbrev pub same_piece : Piece → Piece → Bool
same_piece p q = piece_code p == piece_code q

-- the second piece of the queue is played, and the first is held: the list is the queue behind its first piece
abbrev pub plays_second : List Piece → Piece → (List Piece → Bool) → Bool
plays_second [] piece goes_on = false
plays_second (second ∷ queue) piece goes_on = same_piece second piece && goes_on queue

-- with hold: the held piece is played, or the second of the queue if none is held; its first, if any, is held then
abbrev pub plays_held : Hold → List Piece → Option Piece → Piece → (List Piece → Option Piece → Bool) → Bool
plays_held Avoided queue held piece goes_on = false
plays_held Allowed [] None piece goes_on = false
plays_held Allowed [] (Some kept) piece goes_on = same_piece kept piece && goes_on [] None
plays_held Allowed (first ∷ queue) (Some kept) piece goes_on = same_piece kept piece && goes_on queue (Some first)
plays_held Allowed (first ∷ queue) None piece goes_on = plays_second queue piece (λ rest. goes_on rest (Some first))

-- the first piece of the queue is played
abbrev pub plays_first : List Piece → Piece → (List Piece → Bool) → Bool
plays_first [] piece goes_on = false
plays_first (first ∷ queue) piece goes_on = same_piece first piece && goes_on queue

-- the test of `Permits`: no piece is to be played, or some way plays the first and leaves what permits the rest
unfoldable pub permits : Hold → List Piece → Option Piece → List Piece → Bool
permits hold queue held [] = true
permits hold queue held (piece ∷ pieces) =
    plays_first queue piece (λ rest. permits hold rest held pieces)
    || plays_held hold queue held piece (λ rest after. permits hold rest after pieces)

-- the test of `SomePermits`
abbrev pub some_permits : Hold → List (List Piece) → Option Piece → List Piece → Bool
some_permits hold queues held pieces = list_any (λ queue. permits hold queue held pieces) queues
