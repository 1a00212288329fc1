-- One byte within brackets at a time.
use Rattle.std.proofs.Common.{◌≡◌, ◌≢◌, ◌<◌, ◌≤◌, ◌+◌, ◌^◌, lit<, ◌⊎◌, inl, inr, ℕ, List, length, get_or, refl, ap, sym, ◌∙◌, arith, Result, Err, Bool, true, false, Option, Some, bit_or, rules}
use Rattle.queue_pattern.specs.Queues.{is_in}
use Rattle.std.proofs.lemmas.Bool.Decides.{nat_tests}
use Rattle.std.proofs.lemmas.Bool.{cases_lt}
use Rattle.srs.specs.declared.piece.Piece.{Piece}
use Rattle.std.proofs.lemmas.Nat.{or_lt}
use Rattle.srs.specs.Piece.{piece_with_letter}
use Rattle.queue_pattern.specs.declared.fault.PatternFault.TheVariants.{RepeatedPiece}
use Rattle.queue_pattern.specs.declared.fault.PatternFault.{PatternFault}
use Rattle.queue_pattern.specs.Reading.{IsNextSet}
use Rattle.queue_pattern.specs.Grammar.{TextPosition, Elements, opened, closed, listing, read_at, bracketed, listing_step, opened_step, listed_step, set_of}
use Rattle.queue_pattern.proofs.ReadStep.{read_step, read_end, within_text}

-- a closing bracket after a piece
pub read_close : (text : List ℕ) (start : ℕ) (except : Bool) (listed place : ℕ) → place < length text → get_or text place 0 ≡ 93 → listed ≢ 0
    → read_at text (listing start except listed) place ≡ read_at text (closed start (bracketed except listed)) (place + 1)
read_close text start except listed place within byte some = search (rules, read_step, nat_tests)

-- any other byte is a piece's letter, or a fault
pub read_listed : (text : List ℕ) (start : ℕ) (except : Bool) (listed place : ℕ) (letter : Option Piece) → place < length text
    → (get_or text place 0 ≢ 93) ⊎ (listed ≡ 0) → letter ≡ piece_with_letter (get_or text place 0)
    → read_at text (listing start except listed) place ≡ listed_step start except listed place letter (λ next. read_at text next (place + 1))
read_listed text start except listed place letter within other is = search (rules, read_step, nat_tests)

-- what a letter between brackets does: it is refused, or joins the listed pieces
pub repeated : (start : ℕ) (except : Bool) (listed place : ℕ) (piece : Piece) (rest : TextPosition → Elements)
    → true ≡ is_in piece listed → listed_step start except listed place (Some piece) rest ≡ Err (RepeatedPiece place)
repeated start except listed place piece rest is = rw (sym is) refl

pub joined : (start : ℕ) (except : Bool) (listed place : ℕ) (piece : Piece) (rest : TextPosition → Elements)
    → false ≡ is_in piece listed
    → listed_step start except listed place (Some piece) rest ≡ rest (listing start except (bit_or listed (set_of piece)))
joined start except listed place piece rest is = rw (sym is) refl

-- a set of one piece, and a set with one more
pub set_of-within : (piece : Piece) → set_of piece < 2 ^ 7
set_of-within piece = search (rules, lit<)

pub with_one-within : (listed : ℕ) (piece : Piece) → listed < 128 → bit_or listed (set_of piece) < 128
with_one-within listed piece within = or_lt 7 listed (set_of piece) within (set_of-within piece)

-- a set that is read from one position is read from another that goes on with it
pub set_from : (text : List ℕ) (from to : TextPosition) (start place after : ℕ) (read : Result (ℕ × ℕ) PatternFault) → place ≤ after
    → read_at text from place ≡ read_at text to after → IsNextSet text to start after read → IsNextSet text from start place read
set_from text from to start place after read le same next = search rules

-- after the opening bracket comes `^`, or what is listed
pub open_except : (text : List ℕ) (start : ℕ) → get_or text (start + 1) 0 ≡ 94
    → read_at text (opened start) (start + 1) ≡ read_at text (listing start true 0) (start + 2)
open_except text start byte =
    read_step text (opened start) (start + 1) (within_text text (start + 1) 94 byte (omega arith)) ∙ rw byte (ap (read_at text (listing start true 0)) (omega arith))

opens : (start place byte : ℕ) → byte ≢ 94 → (rest : TextPosition → Elements) → opened_step start place byte rest ≡ listing_step start false 0 place byte rest
opens start place byte other rest = grind (arith, nat_tests)

pub open_listing : (text : List ℕ) (start : ℕ) → start < length text → get_or text (start + 1) 0 ≢ 94
    → read_at text (opened start) (start + 1) ≡ read_at text (listing start false 0) (start + 1)
open_listing text start within other = elim (cases_lt (start + 1) (length text)) [
  | inl inside ↦
      search (rules, read_step, opened, opens, listing)
  | inr past ↦ let at_end : length text ≡ start + 1 = omega arith in
      search (rules, opened, listing, read_end)
]
