-- The pieces at hand, in their order: a held piece is like a first piece of the queue, and each placement takes the
-- first of them or, where hold is allowed, the second.
use Rattle.std.specs.Prelude.{ℕ, ◌+◌, Option, Some, None, List, [], ◌∷◌}
use Rattle.srs.specs.declared.piece.Piece.{Piece}
use Rattle.hold_queue.specs.declared.hold.Hold.{Hold}
use Rattle.hold_queue.specs.declared.hold.Hold.TheVariants.{Allowed, Avoided}

-- the piece that is held at the start, if it may be played
abbrev pub playable : Hold → Option Piece → Option Piece
playable Avoided held = None
playable Allowed held = held

-- a held piece stands in front of the queue; where hold is avoided it is never played
abbrev pub at_hand : Hold → Option Piece → List Piece → List Piece
at_hand Avoided held queue = queue
at_hand Allowed None queue = queue
at_hand Allowed (Some held) queue = held ∷ queue

-- how many pieces are held
abbrev pub count_held : Option Piece → ℕ
count_held None = 0
count_held (Some piece) = 1

-- a piece that is taken from the pieces at hand, and those that are left
pub data Take : Hold → List Piece → Piece → List Piece → Type 0 where
  take_first : {hold : Hold} {piece : Piece} {rest : List Piece} → Take hold (piece ∷ rest) piece rest
  take_second : {first : Piece} {piece : Piece} {rest : List Piece}
      → Take Allowed (first ∷ piece ∷ rest) piece (first ∷ rest)

-- these pieces are taken from the pieces at hand, one after the other; some may be left over
abbrev pub Takes : Hold → List Piece → List Piece → Type 0
Takes hold hand [] = Unit {0}
Takes hold hand (piece ∷ pieces) = (rest : List Piece) × Take hold hand piece rest × Takes hold rest pieces

-- from how many of the pieces at hand so many are taken
abbrev pub taken_from : Hold → ℕ → ℕ
taken_from Avoided count = count
taken_from Allowed count = count + 1
