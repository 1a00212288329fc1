-- Pieces by their rows, from the lowest up: the neighbouring columns that each row takes, counted from the leftmost
-- one.
use Rattle.std.specs.Prelude.{◌≡◌, ℕ, ◌+◌, ◌<◌, ◌≤◌, Bool, false, not, ◌&&◌, ◌==◌, List, [], ◌∷◌, true}
use Rattle.std.specs.List.{list_all, list_any}
use Rattle.lane_board.specs.Field.{Field}
use Rattle.srs.specs.declared.piece.Piece.{Piece}
use Rattle.srs.specs.declared.piece.Piece.TheVariants.{I, L, O, Z, T, J, S}
use Rattle.empty_cells.specs.declared.span.Span.{Span}
use Rattle.empty_cells.specs.declared.span.Span.TheVariants.{First, Second, Third, FirstTwo, SecondTwo, FirstThree, AllFour}

-- the columns of a span
abbrev pub columns_of : Span → List ℕ
columns_of First = 0 ∷ []
columns_of Second = 1 ∷ []
columns_of Third = 2 ∷ []
columns_of FirstTwo = 0 ∷ 1 ∷ []
columns_of SecondTwo = 1 ∷ 2 ∷ []
columns_of FirstThree = 0 ∷ 1 ∷ 2 ∷ []
columns_of AllFour = 0 ∷ 1 ∷ 2 ∷ 3 ∷ []

-- whether a span has the leftmost column
abbrev pub has_first : Span → Bool
has_first span = list_any (λ column. column == 0) (columns_of span)

-- a piece by its rows, once for each rotation that has cells of its own
abbrev pub forms_of : Piece → List (List Span)
forms_of I = (AllFour ∷ []) ∷ (First ∷ First ∷ First ∷ First ∷ []) ∷ []
forms_of L = (FirstThree ∷ Third ∷ []) ∷ (FirstTwo ∷ First ∷ First ∷ []) ∷ (First ∷ FirstThree ∷ [])
    ∷ (Second ∷ Second ∷ FirstTwo ∷ []) ∷ []
forms_of O = (FirstTwo ∷ FirstTwo ∷ []) ∷ []
forms_of Z = (SecondTwo ∷ FirstTwo ∷ []) ∷ (First ∷ FirstTwo ∷ Second ∷ []) ∷ []
forms_of T = (FirstThree ∷ Second ∷ []) ∷ (First ∷ FirstTwo ∷ First ∷ []) ∷ (Second ∷ FirstThree ∷ [])
    ∷ (Second ∷ FirstTwo ∷ Second ∷ []) ∷ []
forms_of J = (FirstThree ∷ First ∷ []) ∷ (First ∷ First ∷ FirstTwo ∷ []) ∷ (Third ∷ FirstThree ∷ [])
    ∷ (FirstTwo ∷ Second ∷ Second ∷ []) ∷ []
forms_of S = (FirstTwo ∷ SecondTwo ∷ []) ∷ (Second ∷ FirstTwo ∷ First ∷ []) ∷ []

-- the set with its columns counted from column x on
unfoldable pub from_column : ℕ → Field → Field
from_column x E a b = E (x + a) b

-- the set has all cells of a span in row y, whose leftmost column is x
unfoldable pub has_span : Field → ℕ → Span → ℕ → Bool
has_span E x span y = list_all (λ column. E (x + column) y) (columns_of span)

-- the set without them
unfoldable pub without_span : Field → ℕ → Span → ℕ → Field
without_span E x span y a b = E a b && not (list_any (λ column. x + column == a) (columns_of span) && y == b)

-- the set has no cell
pub record HasNoCell (E : Field) : Type 0 where
  pub none : (x y : ℕ) → E x y ≡ false

-- the lowest cell of the leftmost column that has cells
pub record IsFirst (E : Field) (x y : ℕ) : Type 0 where
  pub filled : E x y ≡ true
  pub column : x ≤ 9
  pub row : y ≤ 7
  pub leftmost : (a b : ℕ) → a < x → E a b ≡ false
  pub lowest : (b : ℕ) → b < y → E x b ≡ false
