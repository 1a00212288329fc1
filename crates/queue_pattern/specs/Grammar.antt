-- The grammar of pattern texts: their elements, or the first fault from the left.
use Rattle.std.specs.Prelude.{ℕ, ◌+◌, ◌-◌, ◌^◌, Bool, true, false, not, ◌&&◌, ◌||◌, ◌==◌, nat_lt, nat_le, if◌then◌else◌, List, [], ◌∷◌, length, map, bit_or, Option, Some, None, Result, Ok, Err, drop}
use Rattle.srs.specs.declared.piece.Piece.{Piece}
use Rattle.srs.specs.Piece.{piece_code, piece_with_letter}
use Rattle.queue_pattern.specs.declared.element.Element.{Element}
use Rattle.queue_pattern.specs.declared.fault.PatternFault.{PatternFault}
use Rattle.queue_pattern.specs.declared.fault.PatternFault.TheVariants.{Unexpected, RepeatedPiece, TooManyChosen, PatternTooLong, TooManyQueues}
use Rattle.queue_pattern.specs.Queues.{is_in, pieces_in, queue_len, queue_count}

-- the set of one piece
abbrev pub set_of : Piece → ℕ
set_of piece = 2 ^ (piece_code piece - 1)

-- the set of all pieces
abbrev pub all_set : ℕ
all_set = 127

-- the element that is one piece
abbrev pub single : Piece → Element
single piece = record { set = set_of piece; chosen = 1 }

-- the elements of one queue: each piece alone
abbrev pub singles : List Piece → List Element
singles queue = map single queue

-- where a byte of a text may stand: outside of elements; right after the bracket at start; within the brackets that
-- began at start, which list these pieces so far, with `^` before them or without; after the set of an element that
-- began at start; after the `p` that follows such a set
pub data TextPosition : Type 0 where
  outside : TextPosition
  opened : (start : ℕ) → TextPosition
  listing : (start : ℕ) → (except : Bool) → (listed : ℕ) → TextPosition
  closed : (start : ℕ) → (set : ℕ) → TextPosition
  choosing : (start : ℕ) → (set : ℕ) → TextPosition

-- what a text spells from a place on: elements, or its first fault
abbrev pub Elements : Type 0
Elements = Result (List Element) PatternFault

-- a choice of n pieces of a set, whose element began at start
unfoldable pub choice : ℕ → ℕ → ℕ → Result Element PatternFault
choice start set n =
    if nat_lt 0 (length (pieces_in set)) && nat_le n (length (pieces_in set)) then Ok (record { set = set; chosen = n })
    else Err (TooManyChosen start)

-- an element before those that follow
abbrev pub before : Result Element PatternFault → Elements → Elements
before (Ok element) (Ok elements) = Ok (element ∷ elements)
before (Ok element) (Err fault) = Err fault
before (Err fault) rest = Err fault

-- the pieces that brackets stand for: those that they list, or all others
abbrev pub bracketed : Bool → ℕ → ℕ
bracketed true listed = all_set - listed
bracketed false listed = listed

-- a blank or a comma
abbrev pub is_gap : ℕ → Bool
is_gap byte = byte == 32 || (byte == 9 || byte == 44)

-- a byte outside of elements, where rest is what the text goes on with from a position after it
abbrev pub letter_step : ℕ → Option Piece → (TextPosition → Elements) → Elements
letter_step place None rest = Err (Unexpected place)
letter_step place (Some piece) rest = before (Ok (single piece)) (rest outside)

abbrev pub outside_step : ℕ → ℕ → (TextPosition → Elements) → Elements
outside_step place byte rest =
    if is_gap byte then rest outside
    else (if byte == 42 then rest (closed place all_set)
    else (if byte == 91 then rest (opened place)
    else letter_step place (piece_with_letter byte) rest))

-- a byte within brackets
abbrev pub listed_step : ℕ → Bool → ℕ → ℕ → Option Piece → (TextPosition → Elements) → Elements
listed_step start except listed place None rest = Err (Unexpected place)
listed_step start except listed place (Some piece) rest =
    if is_in piece listed then Err (RepeatedPiece place)
    else rest (listing start except (bit_or listed (set_of piece)))

abbrev pub listing_step : ℕ → Bool → ℕ → ℕ → ℕ → (TextPosition → Elements) → Elements
listing_step start except listed place byte rest =
    if byte == 93 && not (listed == 0) then rest (closed start (bracketed except listed))
    else listed_step start except listed place (piece_with_letter byte) rest

abbrev pub opened_step : ℕ → ℕ → ℕ → (TextPosition → Elements) → Elements
opened_step start place byte rest =
    if byte == 94 then rest (listing start true 0) else listing_step start false 0 place byte rest

-- a byte after a set: `p`, `!`, or the first byte that is not the element's
abbrev pub closed_step : ℕ → ℕ → ℕ → ℕ → (TextPosition → Elements) → Elements
closed_step start set place byte rest =
    if byte == 112 || byte == 80 then rest (choosing start set)
    else (if byte == 33 then before (choice start set (length (pieces_in set))) (rest outside)
    else before (choice start set 1) (outside_step place byte rest))

-- a byte after `p`: a digit from 1 to 9
abbrev pub choosing_step : ℕ → ℕ → ℕ → ℕ → (TextPosition → Elements) → Elements
choosing_step start set place byte rest =
    if nat_le 49 byte && nat_le byte 57 then before (choice start set (byte - 48)) (rest outside)
    else Err (Unexpected place)

abbrev pub position_step : TextPosition → ℕ → ℕ → (TextPosition → Elements) → Elements
position_step outside place byte rest = outside_step place byte rest
position_step (opened start) place byte rest = opened_step start place byte rest
position_step (listing start except listed) place byte rest = listing_step start except listed place byte rest
position_step (closed start set) place byte rest = closed_step start set place byte rest
position_step (choosing start set) place byte rest = choosing_step start set place byte rest

-- the text ends
abbrev pub end : TextPosition → ℕ → Elements
end outside place = Ok []
end (opened start) place = Err (Unexpected place)
end (listing start except listed) place = Err (Unexpected place)
end (closed start set) place = before (choice start set 1) (Ok [])
end (choosing start set) place = Err (Unexpected place)

-- what bytes spell from a position on, the first of them at a place
unfoldable pub elements_from : TextPosition → ℕ → List ℕ → Elements
elements_from position place [] = end position place
elements_from position place (byte ∷ bytes) =
    position_step position place byte (λ next. elements_from next (place + 1) bytes)

-- the elements of a text, or its first fault
abbrev pub elements : List ℕ → Elements
elements text = elements_from outside 0 text

-- The limits, which are looked at after the whole text: 22 pieces in each queue, then 10,000,000 queues.
abbrev pub limited : Elements → Elements
limited (Err fault) = Err fault
limited (Ok elements) =
    if nat_lt 22 (queue_len elements) then Err PatternTooLong
    else (if nat_lt 10000000 (queue_count elements) then Err TooManyQueues else Ok elements)

-- what the bytes from a place of a text on spell, from a position
abbrev pub read_at : List ℕ → TextPosition → ℕ → Elements
read_at text position place = elements_from position place (drop place text)
