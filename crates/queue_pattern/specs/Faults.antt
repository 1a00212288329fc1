-- The first fault of a text that is no pattern: what stands whole before it, and what is wrong there.
use Rattle.std.specs.Prelude.{◌≡◌, ◌≢◌, ℕ, ◌<◌, ◌≤◌, true, ◌⊎◌, List, [], ◌∷◌, ◌++◌, length, Some}
use Rattle.srs.specs.declared.piece.Piece.{Piece}
use Rattle.srs.specs.Piece.{piece_with_letter}
use Rattle.queue_pattern.specs.declared.element.Element.{Element}
use Rattle.queue_pattern.specs.declared.fault.PatternFault.{PatternFault}
use Rattle.queue_pattern.specs.declared.fault.PatternFault.TheVariants.{Unexpected, RepeatedPiece, TooManyChosen, PatternTooLong, TooManyQueues}
use Rattle.srs.specs.Forms.{IsStopped}
use Rattle.queue_pattern.specs.Form.{HasForm}
use Rattle.queue_pattern.specs.Queues.{is_in, pieces_in, queue_count, queue_len}
use Rattle.queue_pattern.specs.Spelling.{SpellsChosen, SpellsElements, SpellsLetters, SpellsSet}

-- a bracket that isn't closed, and the letters of different pieces behind it, after `^` or not
pub data BeginsSet : List ℕ → ℕ → Type 0 where
  these : {letters : List ℕ} {listed : ℕ} → SpellsLetters 0 letters listed → BeginsSet (91 ∷ letters) listed
  others : {letters : List ℕ} {listed : ℕ} → SpellsLetters 0 letters listed → BeginsSet (91 ∷ 94 ∷ letters) listed

-- what may stand of an element that isn't whole: nothing, such a bracket, or a set and `p` or `P`
pub data BeginsElement : List ℕ → Type 0 where
  nothing : BeginsElement []
  listing : {front : List ℕ} {listed : ℕ} → BeginsSet front listed → BeginsElement front
  choosing : {front : List ℕ} {set mark : ℕ} → SpellsSet front set → (mark ≡ 112) ⊎ (mark ≡ 80)
      → BeginsElement (front ++ mark ∷ [])

-- Whole elements and the beginning of one stand before the first byte that no text of the form goes on with, or the
-- text ends there and isn't of the form.
pub record IsUnexpectedAt (text : List ℕ) (place : ℕ) : Type 0 where
  pub whole : List ℕ
  pub begun : List ℕ
  pub rest : List ℕ
  pub divided : text ≡ (whole ++ begun) ++ rest
  pub elements : List Element
  pub spelled : SpellsElements whole elements
  pub begins : BeginsElement begun
  pub stops : IsStopped HasForm (whole ++ begun) rest
  pub stands : place ≡ length (whole ++ begun)

-- whole elements and a bracket stand before the letter of a piece that the bracket has
pub record IsRepeatedAt (text : List ℕ) (place : ℕ) : Type 0 where
  pub whole : List ℕ
  pub begun : List ℕ
  pub byte : ℕ
  pub rest : List ℕ
  pub divided : text ≡ (whole ++ begun) ++ byte ∷ rest
  pub elements : List Element
  pub spelled : SpellsElements whole elements
  pub listed : ℕ
  pub begins : BeginsSet begun listed
  pub piece : Piece
  pub is_letter : piece_with_letter byte ≡ Some piece
  pub again : is_in piece listed ≡ true
  pub stands : place ≡ length (whole ++ begun)

-- no byte follows that says how many are chosen
abbrev pub IsUnmarked : List ℕ → Type 0
IsUnmarked [] = Unit {0}
IsUnmarked (byte ∷ rest) = (byte ≢ 112) × (byte ≢ 80) × (byte ≢ 33)

-- whole elements stand before a choice of pieces from a set that is empty, or has fewer
pub record IsTooManyAt (text : List ℕ) (place : ℕ) : Type 0 where
  pub whole : List ℕ
  pub front : List ℕ
  pub back : List ℕ
  pub rest : List ℕ
  pub divided : text ≡ whole ++ (front ++ (back ++ rest))
  pub elements : List Element
  pub spelled : SpellsElements whole elements
  pub set : ℕ
  pub chosen : ℕ
  pub set_spelled : SpellsSet front set
  pub chosen_spelled : SpellsChosen (length (pieces_in set)) back chosen
  pub ends : back ≡ [] → IsUnmarked rest
  pub wrong : (length (pieces_in set) ≡ 0) ⊎ (length (pieces_in set) < chosen)
  pub stands : place ≡ length whole

-- the text spells elements whose queues have more than 22 pieces
pub record IsTooLong (text : List ℕ) : Type 0 where
  pub elements : List Element
  pub spelled : SpellsElements text elements
  pub long : 22 < queue_len elements

-- or at most so many, and of which there are more than 10,000,000
pub record HasTooManyQueues (text : List ℕ) : Type 0 where
  pub elements : List Element
  pub spelled : SpellsElements text elements
  pub short : queue_len elements ≤ 22
  pub many : 10000000 < queue_count elements

-- the first fault of a text from the left; the limits are looked at after the whole text
abbrev pub IsPatternFault : List ℕ → PatternFault → Type 0
IsPatternFault text (Unexpected place) = IsUnexpectedAt text place
IsPatternFault text (RepeatedPiece place) = IsRepeatedAt text place
IsPatternFault text (TooManyChosen place) = IsTooManyAt text place
IsPatternFault text PatternTooLong = IsTooLong text
IsPatternFault text TooManyQueues = HasTooManyQueues text
