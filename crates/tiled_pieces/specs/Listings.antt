-- Pieces laid one after the other, and what a walk over tilings adds to a list.
use Rattle.std.specs.Prelude.{◌≡◌, ℕ, ◌<◌, ◌≤◌, true, false, IsTrue, List, [], ◌∷◌, ◌++◌, length, map, slice_index_or}
use Rattle.std.specs.List.{Contains, list_all, range_with_len}
use Rattle.lane_board.specs.Field.{Field, difference, empty_field}
use Rattle.srs.specs.declared.piece.Piece.{Piece}
use Rattle.srs.specs.declared.piece.Piece.TheVariants.{I}
use Rattle.prune.specs.Tiling.{IsGeneralized, Part, Supply}
use Rattle.prune.specs.OnePart.{less_one}
use Rattle.empty_cells.specs.declared.shifted.Shifted.{Shifted}
use Rattle.empty_cells.specs.declared.span.Span.{Span}
use Rattle.empty_cells.specs.Empties.{has_cell_at}
use Rattle.empty_cells.specs.ShiftedCells.{shifted_cells}
use Rattle.empty_cells.specs.Spans.{HasNoCell, IsFirst, forms_of}
use Rattle.empty_cells.specs.Stacks.{Stacks, is_allowed}
use Rattle.empty_cells.specs.SupplyWords.{supply_of}
use Rattle.tiled_pieces.specs.declared.cover.Cover.{Cover}
use Rattle.tiled_pieces.specs.declared.listed.ListedTiling.{ListedTiling}
use Rattle.tiled_pieces.specs.declared.listing.Listing.{Listing}
use Rattle.tiled_pieces.specs.declared.path.Path.{Path}
use Rattle.tiled_pieces.specs.TilingLists.{LaidPiece, laid_at, laid_part, most_pieces}
use Rattle.tiled_pieces.specs.RowBits.{GoesFrom}

-- no piece, as at the indexes of a listed tiling past its last one
abbrev pub no_piece : LaidPiece
no_piece = record { piece = I; cells = empty_field }

-- the pieces of a path, in the order in which they were laid
unfoldable pub path_of : Path → List LaidPiece
path_of path = map (laid_at path.tiling) (range_with_len 0 path.count)

-- at which piece a walk goes on: one that has the first cell; or any
abbrev pub HasFirst : Field → LaidPiece → Type 0
HasFirst E laid = (x y : ℕ) → IsFirst E x y → laid.cells x y ≡ true

abbrev pub IsAny : Field → LaidPiece → Type 0
IsAny E laid = Unit {0}

-- a piece of the supply is laid within a set
pub record IsLaid (Next : Field → LaidPiece → Type 0) (supply : Supply) (E : Field) (laid : LaidPiece) : Type 0 where
  pub part : Part
  pub is : laid ≡ laid_part part
  pub generalized : IsGeneralized part
  pub some : 0 < supply part.piece
  pub inside : IsTrue (list_all (has_cell_at E) part.cells)
  pub next : Next E laid

-- pieces are laid one after the other, until no cell of the set is left
unfoldable pub AreLaid : (Field → LaidPiece → Type 0) → Supply → Field → List LaidPiece → Type 0
AreLaid Next supply E [] = HasNoCell E
AreLaid Next supply E (laid ∷ more) =
    IsLaid Next supply E laid × AreLaid Next (less_one supply laid.piece) (difference E laid.cells) more

-- after the pieces of a path come some that use up the set
pub record GoesOn (Next : Field → LaidPiece → Type 0) (supply : Supply) (E : Field)
    (path found : List LaidPiece) : Type 0 where
  pub more : List LaidPiece
  pub is : found ≡ path ++ more
  pub laid : AreLaid Next supply E more

-- a piece of this kind was taken from a set, and others use up what it left
abbrev pub GoesOnWith : (Field → LaidPiece → Type 0) → Supply → Field → Piece → List LaidPiece → List LaidPiece
    → Field → Type 0
GoesOnWith Next supply E piece path found left =
    GoesOn Next supply left (path ++ record { piece = piece; cells = difference E left } ∷ []) found

-- spans are taken from a set, and others use up what they leave
abbrev pub StacksUp : (Field → LaidPiece → Type 0) → Cover → Piece → Shifted → ℕ → List Span
    → List LaidPiece → List LaidPiece → Type 0
StacksUp Next cover piece cells floor spans path found =
    Stacks (is_allowed cover.y) (GoesOnWith Next (supply_of cover.supply) (shifted_cells cover.cells) piece path found)
    (shifted_cells cells) cells.x floor spans

-- the spans of a form have the first cell, and others use up what they leave
pub record StacksForm (Next : Field → LaidPiece → Type 0) (supply : Supply) (E : Field) (x y : ℕ) (piece : Piece)
    (index : ℕ) (path found : List LaidPiece) : Type 0 where
  pub known : index < length (forms_of piece)
  pub stacks : Stacks (is_allowed y) (GoesOnWith Next supply E piece path found) E x 0
      (slice_index_or (forms_of piece) index [])

-- those of some form do
pub record StacksSome (Next : Field → LaidPiece → Type 0) (supply : Supply) (E : Field) (x y : ℕ) (piece : Piece)
    (path found : List LaidPiece) : Type 0 where
  pub index : ℕ
  pub stacks : StacksForm Next supply E x y piece index path found

-- a piece of this kind of the supply does
pub record TakesFirst (Next : Field → LaidPiece → Type 0) (supply : Supply) (E : Field) (x y : ℕ) (piece : Piece)
    (path found : List LaidPiece) : Type 0 where
  pub has : 0 < supply piece
  pub stacks : StacksSome Next (less_one supply piece) E x y piece path found

-- the pieces of a listed tiling
pub record Spells (tiling : ListedTiling) (found : List LaidPiece) : Type 0 where
  pub few : length found ≤ most_pieces
  pub each : (index : ℕ) → index < most_pieces → laid_at tiling index ≡ slice_index_or found index no_piece

-- these pieces are listed
pub record Lists (list : List ListedTiling) (found : List LaidPiece) : Type 0 where
  pub tiling : ListedTiling
  pub listed : Contains list tiling
  pub spells : Spells tiling found

-- this listed tiling is of such pieces
pub record Lies (Most : List LaidPiece → Type 0) (tiling : ListedTiling) : Type 0 where
  pub found : List LaidPiece
  pub spells : Spells tiling found
  pub most : Most found

-- To a list come tilings: unless it is full, all whose further pieces can follow and for which one fact holds of the path
-- and their pieces, and none but those for which another one does. The path and the order stay.
pub record Adds (old new : Listing) (Least Most : List LaidPiece → List LaidPiece → Type 0) : Type 0 where
  pub more : List ListedTiling
  pub longer : new.tilings.items ≡ old.tilings.items ++ more
  pub path : path_of new.path ≡ path_of old.path
  pub order : new.order ≡ old.order
  pub full : old.is_full ≡ true → new.is_full ≡ true
  pub gained : new.is_full ≡ false → (found : List LaidPiece) → GoesFrom old.order (path_of old.path) found
      → Least (path_of old.path) found → Lists more found
  pub only : (tiling : ListedTiling) → Contains more tiling → Lies (Most (path_of old.path)) tiling
