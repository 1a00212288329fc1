-- Pieces that are put into a set of empty cells one after the other. The rows of the set are those of the field before
-- the first of them: a row that has been filled since is gone, and what lay above it came down.
use Rattle.std.specs.Prelude.{◌≡◌, ℕ, ◌<◌, Bool, true, false, List, [], ◌∷◌}
use Rattle.lane_board.specs.Field.{Field, difference}
use Rattle.tiled_pieces.specs.TilingLists.{LaidPiece}

-- the set has no cell in a row
abbrev pub IsGone : Field → ℕ → Type 0
IsGone E z = (x : ℕ) → E x z ≡ false

-- A cell has a floor: there is no row below it that is not gone, or the next such row has no empty cell in its column.
abbrev pub HasFloor : Field → ℕ → ℕ → Type 0
HasFloor E x y = (z : ℕ) → z < y → ((w : ℕ) → z < w → w < y → IsGone E w) → E x z ≡ false

-- one of the cells of a piece has a floor
pub record Rests (E : Field) (laid : LaidPiece) : Type 0 where
  pub x : ℕ
  pub y : ℕ
  pub there : laid.cells x y ≡ true
  pub floor : HasFloor E x y

-- A piece can be put into the set: its cells are in it, what lies between two of its rows is gone, it rests, and if it
-- must drop, no filled cell lies above it.
pub record Fits (E : Field) (drops : Bool) (laid : LaidPiece) : Type 0 where
  pub inside : (x y : ℕ) → laid.cells x y ≡ true → E x y ≡ true
  pub unbroken : (x y u v z : ℕ) → laid.cells x y ≡ true → laid.cells u v ≡ true → y < z → z < v
      → IsGone laid.cells z → IsGone E z
  pub rests : Rests E laid
  pub clear : drops ≡ true → (x y z : ℕ) → laid.cells x y ≡ true → y < z → z < 8 → E x z ≡ false → IsGone E z

-- the pieces can be put into the set in this order
unfoldable pub AreBuilt : Field → Bool → List LaidPiece → Type 0
AreBuilt E drops [] = Unit {0}
AreBuilt E drops (laid ∷ more) = Fits E drops laid × AreBuilt (difference E laid.cells) drops more
