-- The grammar of pattern texts as a relation: which texts spell which elements.
use Rattle.std.specs.Prelude.{◌≡◌, ◌≢◌, ℕ, ◌+◌, ◌-◌, ◌<◌, ◌≤◌, true, false, ◌⊎◌, List, [], ◌∷◌, ◌++◌, length, bit_or, Some}
use Rattle.srs.specs.declared.piece.Piece.{Piece}
use Rattle.srs.specs.Piece.{piece_with_letter}
use Rattle.queue_pattern.specs.declared.element.Element.{Element}
use Rattle.queue_pattern.specs.Queues.{is_in, pieces_in}
use Rattle.queue_pattern.specs.Grammar.{set_of, single, all_set, is_gap}

-- letters of different pieces, none of which is in a set so far, and that set with them
abbrev pub SpellsLetters : ℕ → List ℕ → ℕ → Type 0
SpellsLetters so_far [] set = so_far ≡ set
SpellsLetters so_far (byte ∷ bytes) set =
    (piece : Piece) × (piece_with_letter byte ≡ Some piece) × (is_in piece so_far ≡ false)
    × SpellsLetters (bit_or so_far (set_of piece)) bytes set

-- `*` for all pieces; one or more letters between brackets, for theirs; or after `^` for all others
pub data SpellsSet : List ℕ → ℕ → Type 0 where
  all : SpellsSet (42 ∷ []) all_set
  these : {letters : List ℕ} {set : ℕ} → letters ≢ [] → SpellsLetters 0 letters set
      → SpellsSet (91 ∷ letters ++ 93 ∷ []) set
  others : {letters : List ℕ} (set : ℕ) → letters ≢ [] → SpellsLetters 0 letters set
      → SpellsSet (91 ∷ 94 ∷ letters ++ 93 ∷ []) (all_set - set)

-- how many pieces are chosen of a set of so many: nothing for one, `p` or `P` and a digit from 1 to 9, or `!` for all
pub data SpellsChosen : ℕ → List ℕ → ℕ → Type 0 where
  one : {size : ℕ} → SpellsChosen size [] 1
  digit : {size mark n : ℕ} → (mark ≡ 112) ⊎ (mark ≡ 80) → 1 ≤ n → n ≤ 9 → SpellsChosen size (mark ∷ (48 + n) ∷ []) n
  every : {size : ℕ} → SpellsChosen size (33 ∷ []) size

-- a letter, or a choice of some pieces of a set that is not empty, and no more than it has
pub data SpellsElement : List ℕ → Element → Type 0 where
  letter : {byte : ℕ} {piece : Piece} → piece_with_letter byte ≡ Some piece
      → SpellsElement (byte ∷ []) (single piece)
  chosen : {front back : List ℕ} {set n : ℕ} → SpellsSet front set → SpellsChosen (length (pieces_in set)) back n
      → 0 < length (pieces_in set) → n ≤ length (pieces_in set)
      → SpellsElement (front ++ back) (record { set = set; chosen = n })

-- elements one after the other, with blanks and commas before, between and after them
pub data SpellsElements : List ℕ → List Element → Type 0 where
  none : SpellsElements [] []
  gap : {byte : ℕ} {text : List ℕ} {elements : List Element} → is_gap byte ≡ true → SpellsElements text elements
      → SpellsElements (byte ∷ text) elements
  element : {front rest : List ℕ} {first : Element} {elements : List Element} → SpellsElement front first
      → SpellsElements rest elements → SpellsElements (front ++ rest) (first ∷ elements)
