-- Spans one above the other: a row of the set is chosen for each, from the lowest up.
use Rattle.std.specs.Prelude.{◌≡◌, ℕ, suc, ◌+◌, ◌<◌, ◌≤◌, Bool, true, false, not, ◌&&◌, ◌||◌, ◌==◌, if◌then◌else◌, nat_lt, List, [], ◌∷◌, length, slice_index_or}
use Rattle.std.specs.List.{list_any}
use Rattle.lane_board.specs.Field.{Field}
use Rattle.srs.specs.declared.piece.Piece.{Piece}
use Rattle.empty_cells.specs.declared.span.Span.{Span}
use Rattle.prune.specs.Tiling.{Supply, Tiling}
use Rattle.prune.specs.OnePart.{less_one}
use Rattle.empty_cells.specs.Empties.{all_but}
use Rattle.empty_cells.specs.Spans.{columns_of, has_first, forms_of, has_span, without_span}

-- a span whose rows start at `floor` takes a row of the set
pub record MayTake (allowed : ℕ → Span → ℕ → Bool) (E : Field) (x floor : ℕ) (span : Span) (row : ℕ) : Type 0 where
  pub above : floor ≤ row
  pub permitted : allowed floor span row ≡ true
  pub has : has_span E x span row ≡ true

-- spans can be stacked from row `floor` on so that a fact holds of what they leave
unfoldable pub Stacks : (ℕ → Span → ℕ → Bool) → (Field → Type 0) → Field → ℕ → ℕ → List Span → Type 0
Stacks allowed Fact E x floor [] = Fact E
Stacks allowed Fact E x floor (span ∷ spans) =
    (row : ℕ) × MayTake allowed E x floor span row × Stacks allowed Fact (without_span E x span row) x (row + 1) spans

-- A span may take a row so that the lowest span with the leftmost column takes row y: until that one has come, so where
-- the rows start at y or below, one with that column takes y and others lie below y.
abbrev pub is_allowed : ℕ → ℕ → Span → ℕ → Bool
is_allowed y floor span row = if nat_lt y floor then true else (if has_first span then row == y else nat_lt row y)

-- the cells of a set below row `height` can be filled by pieces of the supply
abbrev pub CanFill : ℕ → Supply → Field → Type 0
CanFill height supply E = Tiling (all_but E) height supply

-- spans can be stacked over the cell (x, y), and the supply fills what they leave
abbrev pub StacksOver : Supply → Field → ℕ → ℕ → ℕ → List Span → Type 0
StacksOver supply E x y floor spans = Stacks (is_allowed y) (CanFill 8 supply) E x floor spans

-- spans of a piece can be stacked over the cell (x, y), and the supply fills what they leave
pub record StacksPiece (supply : Supply) (E : Field) (x y : ℕ) (piece : Piece) : Type 0 where
  pub index : ℕ
  pub known : index < length (forms_of piece)
  pub stacks : StacksOver supply E x y 0 (slice_index_or (forms_of piece) index [])

-- the supply has a piece of this kind, and its spans can be stacked so that the others fill what they leave
pub record TakesPiece (supply : Supply) (E : Field) (x y : ℕ) (piece : Piece) : Type 0 where
  pub has : 0 < supply piece
  pub stacks : StacksPiece (less_one supply piece) E x y piece

-- whether the cell (a, b) is one of the spans whose rows are these
unfoldable pub in_stack : ℕ → (ℕ → ℕ) → List Span → ℕ → ℕ → Bool
in_stack x rows [] a b = false
in_stack x rows (span ∷ spans) a b =
    (list_any (λ column. x + column == a) (columns_of span) && rows 0 == b) || in_stack x (λ k. rows (suc k)) spans a b

-- the set without the cells of the spans
unfoldable pub without_stack : Field → ℕ → (ℕ → ℕ) → List Span → Field
without_stack E x rows spans a b = E a b && not (in_stack x rows spans a b)
