-- The words of a caller, each ended by a NUL byte.
use Rattle.std.specs.Prelude.{◌≡◌, ℕ, List, [], ◌∷◌, ◌++◌, false, ◌==◌, All, IsUtf8}

-- a text in UTF-8 with no NUL byte
pub record IsWord (word : List ℕ) : Type 0 where
  pub utf8 : IsUtf8 word
  pub plain : All (λ byte. (byte == 0) ≡ false) word

-- the text is these words, each with a NUL byte behind it
abbrev pub SpellsWords : List ℕ → List (List ℕ) → Type 0
SpellsWords text [] = text ≡ []
SpellsWords text (word ∷ words) =
    IsWord word × (rest : List ℕ) × (text ≡ word ++ 0 ∷ rest) × SpellsWords rest words

-- it is no words at all: a word is not in UTF-8, or the last one has no NUL byte behind it
abbrev pub SpellsNoWords : List ℕ → Type 0
SpellsNoWords text = (words : List (List ℕ)) → SpellsWords text words → ⊥
