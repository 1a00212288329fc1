-- The form of pattern texts, whatever pieces brackets list and however many of them are chosen.
use Rattle.std.specs.Prelude.{◌≡◌, ◌≢◌, ℕ, ◌+◌, ◌≤◌, true, ◌⊎◌, Bool, is_some, List, [], ◌∷◌, ◌++◌, All}
use Rattle.srs.specs.Piece.{piece_with_letter}
use Rattle.queue_pattern.specs.Grammar.{is_gap}

abbrev pub is_letter : ℕ → Bool
is_letter byte = is_some (piece_with_letter byte)

-- letters of pieces, equal ones among them or not
abbrev pub AreLetters : List ℕ → Type 0
AreLetters letters = All (λ byte. is_letter byte ≡ true) letters

-- `*`, or one or more letters between brackets, after `^` or not
pub data HasSetForm : List ℕ → Type 0 where
  all : HasSetForm (42 ∷ [])
  these : {letters : List ℕ} → letters ≢ [] → AreLetters letters → HasSetForm (91 ∷ letters ++ 93 ∷ [])
  others : {letters : List ℕ} → letters ≢ [] → AreLetters letters → HasSetForm (91 ∷ 94 ∷ letters ++ 93 ∷ [])

-- nothing, `p` or `P` and a digit from 1 to 9, or `!`
pub data HasChosenForm : List ℕ → Type 0 where
  one : HasChosenForm []
  digit : {mark n : ℕ} → (mark ≡ 112) ⊎ (mark ≡ 80) → 1 ≤ n → n ≤ 9 → HasChosenForm (mark ∷ (48 + n) ∷ [])
  every : HasChosenForm (33 ∷ [])

-- a letter, or a choice of some pieces of a set
pub data HasElementForm : List ℕ → Type 0 where
  letter : {byte : ℕ} → is_letter byte ≡ true → HasElementForm (byte ∷ [])
  chosen : {front back : List ℕ} → HasSetForm front → HasChosenForm back → HasElementForm (front ++ back)

-- elements one after the other, with blanks and commas before, between and after them
pub data HasForm : List ℕ → Type 0 where
  none : HasForm []
  gap : {byte : ℕ} {text : List ℕ} → is_gap byte ≡ true → HasForm text → HasForm (byte ∷ text)
  element : {front rest : List ℕ} → HasElementForm front → HasForm rest → HasForm (front ++ rest)
