-- Orders in which pieces of a list use up a set of cells, and what is left after those of a set of them.
use Rattle.std.specs.Prelude.{◌≡◌, ◌⊎◌, ℕ, zero, suc, ◌+◌, ◌<◌, ◌^◌, Bool, true, false, if◌then◌else◌, List, [], ◌∷◌, length, map, slice_index, bit_or}
use Rattle.lane_board.specs.Field.{Field, difference}
use Rattle.lane_board.specs.Lanes.{has_bit}
use Rattle.srs.specs.declared.piece.Piece.TheVariants.{I}
use Rattle.srs.specs.Piece.{piece_code}
use Rattle.empty_cells.specs.Spans.{HasNoCell}
use Rattle.empty_cells.specs.Empties.{cells_by_column}
use Rattle.tiled_pieces.specs.declared.listed.ListedTiling.{ListedTiling}
use Rattle.tiled_pieces.specs.TilingLists.{LaidPiece, laid_at, most_pieces}
use Rattle.tiled_pieces.specs.declared.laid.Laid.{Laid}
use Rattle.tiled_pieces.specs.Built.{Fits}

-- the cells of the piece at an index
unfoldable pub cells_at : List Laid → ℕ → Field
cells_at pieces i = cells_by_column (slice_index (map (λ (piece : Laid). piece.cells) pieces) i)

-- the weight of its kind
unfoldable pub weight_at : List Laid → ℕ → ℕ
weight_at pieces i = slice_index (map (λ (piece : Laid). piece.weight) pieces) i

-- The piece at an index can be put into the set, and the bit is set in what is allowed at the number with its weight.
pub record MayFollow (pieces : List Laid) (drops : Bool) (allowed : List ℕ) (bit : ℕ) (E : Field) (number i : ℕ) : Type 0 where
  pub known : i < length pieces
  pub fits : Fits E drops (record { piece = I; cells = cells_at pieces i })
  pub permitted : has_bit (slice_index allowed (number + weight_at pieces i)) bit ≡ true

-- the pieces at these indexes use up the set in this order
unfoldable pub UsesUp : List Laid → Bool → List ℕ → ℕ → Field → ℕ → List ℕ → Type 0
UsesUp pieces drops allowed bit E number [] = HasNoCell E
UsesUp pieces drops allowed bit E number (i ∷ more) =
    MayFollow pieces drops allowed bit E number i
    × UsesUp pieces drops allowed bit (difference E (cells_at pieces i)) (number + weight_at pieces i) more

-- some order of them does
pub record HasOrder (pieces : List Laid) (drops : Bool) (allowed : List ℕ) (bit : ℕ) (E : Field) : Type 0 where
  pub order : List ℕ
  pub uses_up : UsesUp pieces drops allowed bit E 0 order

-- what the first n pieces leave, of those whose bit is set
unfoldable pub left_after : List Laid → Field → ℕ → ℕ → Field
left_after pieces E set zero = E
left_after pieces E set (suc n) =
    if has_bit set n then difference (left_after pieces E set n) (cells_at pieces n) else left_after pieces E set n

-- the sum of their weights
unfoldable pub number_after : List Laid → ℕ → ℕ → ℕ
number_after pieces set zero = 0
number_after pieces set (suc n) =
    number_after pieces set n + (if has_bit set n then weight_at pieces n else 0)

-- A hand that is carried on: it was there, the piece is not in the set, and it may follow.
pub record IsCarried (pieces : List Laid) (drops : Bool) (allowed : List ℕ) (hands set : ℕ) (E : Field) (number i bit : ℕ) : Type 0 where
  pub unset : has_bit set i ≡ false
  pub hand : has_bit hands bit ≡ true
  pub follows : MayFollow pieces drops allowed bit E number i

-- The first n pieces carry hands on from a set to those with one piece more.
pub record Carries (pieces : List Laid) (drops : Bool) (allowed : List ℕ) (hands set : ℕ) (E : Field) (number : ℕ) (old new : List ℕ) (n : ℕ) : Type 0 where
  pub keeps : (s bit : ℕ) → has_bit (slice_index old s) bit ≡ true → has_bit (slice_index new s) bit ≡ true
  pub carries : (i bit : ℕ) → i < n → IsCarried pieces drops allowed hands set E number i bit
      → has_bit (slice_index new (bit_or set (2 ^ i))) bit ≡ true
  pub only : (s bit : ℕ) → has_bit (slice_index new s) bit ≡ true → (has_bit (slice_index old s) bit ≡ true)
      ⊎ ((i : ℕ) × (s ≡ bit_or set (2 ^ i)) × IsCarried pieces drops allowed hands set E number i bit)

-- What a visit of a set does: its hands are found where its pieces use up the cells, and else carried on.
pub record Visits (pieces : List Laid) (drops : Bool) (allowed : List ℕ) (E : Field) (set : ℕ) (old new : List ℕ) (found : ℕ) : Type 0 where
  pub finds : (bit : ℕ) → has_bit found bit ≡ true
      → HasNoCell (left_after pieces E set (length pieces)) × (has_bit (slice_index old set) bit ≡ true)
  pub ends : (bit : ℕ) → HasNoCell (left_after pieces E set (length pieces))
      → has_bit (slice_index old set) bit ≡ true → has_bit found bit ≡ true
  pub carries : Carries pieces drops allowed (slice_index old set) set (left_after pieces E set (length pieces))
      (number_after pieces set (length pieces)) old new (length pieces)

-- a set has cells, all of them in another one
pub record LiesIn (piece E : Field) : Type 0 where
  pub x : ℕ
  pub y : ℕ
  pub there : piece x y ≡ true
  pub inside : (a b : ℕ) → piece a b ≡ true → E a b ≡ true

-- the piece at an index of a list has these cells, and the weight of this kind
pub record IsAt (weights : List ℕ) (pieces : List Laid) (laid : LaidPiece) (j : ℕ) : Type 0 where
  pub known : j < length pieces
  pub cells : cells_at pieces j ≡ laid.cells
  pub weight : weight_at pieces j ≡ slice_index weights (piece_code laid.piece)

-- some index has it
pub record HasLaid (weights : List ℕ) (pieces : List Laid) (laid : LaidPiece) : Type 0 where
  pub index : ℕ
  pub here : IsAt weights pieces laid index

-- a piece of a tiling is at an index
pub record IsOf (tiling : ListedTiling) (weights : List ℕ) (pieces : List Laid) (j : ℕ) : Type 0 where
  pub slot : ℕ
  pub low : slot < most_pieces
  pub here : IsAt weights pieces (laid_at tiling slot) j

-- a list has pieces of a tiling alone, and those of the first n slots that lie in a set
pub record HasThose (tiling : ListedTiling) (E : Field) (weights : List ℕ) (pieces : List Laid) (n : ℕ) : Type 0 where
  pub only : (j : ℕ) → j < length pieces → IsOf tiling weights pieces j
  pub all : (slot : ℕ) → slot < n → LiesIn (laid_at tiling slot).cells E → HasLaid weights pieces (laid_at tiling slot)
