-- What a line with four fields is.
use Rattle.std.specs.Prelude.{◌≡◌, ℕ, ◌<◌, List, ◌∷◌, ◌++◌, length, false, ◌==◌, All}

-- the four fields of a line
pub record Four : Type 0 where
  pub cells : List ℕ
  pub operation : List ℕ
  pub flags : List ℕ
  pub comment : List ℕ

-- a field has some byte, and no blank
pub record IsField (text : List ℕ) : Type 0 where
  pub some : 0 < length text
  pub blanks : All (λ byte. (byte == 32) ≡ false) text

-- four fields with one blank between each two
pub record IsDivided (line : List ℕ) (four : Four) : Type 0 where
  pub divided : line ≡ four.cells ++ 32 ∷ (four.operation ++ 32 ∷ (four.flags ++ 32 ∷ four.comment))
  pub cells : IsField four.cells
  pub operation : IsField four.operation
  pub flags : IsField four.flags
  pub comment : IsField four.comment
