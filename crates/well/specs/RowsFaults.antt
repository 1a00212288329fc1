-- The first fault of a text that is no rows text: what stands whole before it, and what is wrong there.
use Rattle.std.specs.Prelude.{◌≡◌, ◌≢◌, ℕ, ◌+◌, ◌<◌, ◌≤◌, true, false, ◌⊎◌, List, [], ◌∷◌, ◌++◌, length, All}
use Rattle.std.specs.List.{flat_map}
use Rattle.well.specs.declared.rows.RowsFault.{RowsFault}
use Rattle.well.specs.declared.rows.RowsFault.TheVariants.{BadRowChar, BadRowLength, TooManyRows}
use Rattle.well.specs.Rows.{is_row_char, IsRow}

-- rows with a slash after each
abbrev pub slashed : List (List ℕ) → List ℕ
slashed rows = flat_map (λ row. row ++ 47 ∷ []) rows

-- a text begins with up to 22 rows, a slash after each, and up to ten characters of the row behind them
pub record Begins (text : List ℕ) (rows : List (List ℕ)) (begun rest : List ℕ) : Type 0 where
  pub divided : text ≡ (slashed rows ++ begun) ++ rest
  pub each : All IsRow rows
  pub few : length rows < 23
  pub characters : All (λ byte. is_row_char byte ≡ true) begun
  pub short : length begun ≤ 10

-- behind such a beginning stands a byte that is neither a character of a row nor a slash
pub record IsBadCharAt (text : List ℕ) (place : ℕ) : Type 0 where
  pub rows : List (List ℕ)
  pub begun : List ℕ
  pub byte : ℕ
  pub rest : List ℕ
  pub begins : Begins text rows begun (byte ∷ rest)
  pub no_slash : byte ≢ 47
  pub no_character : is_row_char byte ≡ false
  pub stands : place ≡ length (slashed rows ++ begun)

-- a row goes on with an eleventh character, or ends before the tenth, at a slash or with the text
abbrev pub IsBadLength : List ℕ → List ℕ → Type 0
IsBadLength begun [] = length begun < 10
IsBadLength begun (byte ∷ rest) =
    ((length begun ≡ 10) × (is_row_char byte ≡ true)) ⊎ ((length begun < 10) × (byte ≡ 47))

-- the row behind such a beginning, which is counted from 1, has another length
pub record HasBadLength (text : List ℕ) (row : ℕ) : Type 0 where
  pub rows : List (List ℕ)
  pub begun : List ℕ
  pub rest : List ℕ
  pub some : text ≢ []
  pub begins : Begins text rows begun rest
  pub wrong : IsBadLength begun rest
  pub number : row ≡ length rows + 1

-- a text begins with 23 rows and a slash after each
pub record HasTooManyRows (text : List ℕ) : Type 0 where
  pub rows : List (List ℕ)
  pub rest : List ℕ
  pub divided : text ≡ slashed rows ++ rest
  pub each : All IsRow rows
  pub many : length rows ≡ 23

-- the first fault of a text from the left
abbrev pub IsRowsFault : List ℕ → RowsFault → Type 0
IsRowsFault text (BadRowChar place) = IsBadCharAt text place
IsRowsFault text (BadRowLength row) = HasBadLength text row
IsRowsFault text TooManyRows = HasTooManyRows text
