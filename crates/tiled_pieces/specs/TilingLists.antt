-- Listed tilings: which pieces they have, and when all tilings of a set of cells are listed, and nothing else.
use Rattle.std.specs.Prelude.{◌≡◌, ◌⊎◌, ℕ, ◌<◌, pos, IsTrue, List, All, map, slice_index_or}
use Rattle.std.specs.List.{Contains, list_all}
use Rattle.lane_board.specs.Field.{Field, empty_field}
use Rattle.srs.specs.declared.piece.Piece.{Piece}
use Rattle.srs.specs.declared.piece.Piece.TheVariants.{I}
use Rattle.srs.specs.declared.placement.Placement.{Placement}
use Rattle.srs.specs.Cells.{cells_of}
use Rattle.srs.specs.SameCells.{is_among}
use Rattle.prune.specs.Tiling.{Part, Supply, Tiling}
use Rattle.prune.specs.OnePart.{less_one}
use Rattle.empty_cells.specs.Empties.{all_but, empty_cells, has_cell_at, without_placement}
use Rattle.empty_cells.specs.Spans.{HasNoCell}
use Rattle.tiled_pieces.specs.declared.listed.ListedTiling.{ListedTiling}

-- the most pieces of a listed tiling
abbrev pub most_pieces : ℕ
most_pieces = 9

-- a piece that is laid: its kind, and the cells that it covers
pub record LaidPiece : Type 0 where
  pub piece : Piece
  pub cells : Field

-- a part of a tiling, as a piece that is laid
abbrev pub laid_part : Part → LaidPiece
laid_part part = record { piece = part.piece; cells = λ x y. is_among part.cells (pos x, pos y) }

-- a placement, as a piece that is laid
abbrev pub laid_placement : Placement → LaidPiece
laid_placement placement =
    record { piece = placement.piece; cells = λ x y. is_among (cells_of placement) (pos x, pos y) }

-- the piece at an index of a listed tiling
unfoldable pub laid_at : ListedTiling → ℕ → LaidPiece
laid_at tiling index = record {
  piece = slice_index_or tiling.kinds index I;
  cells = slice_index_or (map empty_cells tiling.cells) index empty_field;
}

-- a listed tiling has a piece at one of its slots
pub record HasPiece (tiling : ListedTiling) (laid : LaidPiece) : Type 0 where
  pub index : ℕ
  pub known : index < most_pieces
  pub there : laid_at tiling index ≡ laid

-- some listed tiling has a piece
pub record SomeHas (list : List ListedTiling) (laid : LaidPiece) : Type 0 where
  pub tiling : ListedTiling
  pub listed : Contains list tiling
  pub has : HasPiece tiling laid

-- a listed tiling has all parts of a tiling
pub record HasParts (list : List ListedTiling) (parts : List Part) : Type 0 where
  pub tiling : ListedTiling
  pub listed : Contains list tiling
  pub all : All (λ part. HasPiece tiling (laid_part part)) parts

-- each tiling of a set of cells by a supply is listed
pub record ListsAll (E : Field) (supply : Supply) (list : List ListedTiling) : Type 0 where
  pub all : (t : Tiling (all_but E) 8 supply) → HasParts list t.parts

-- the pieces of a listed tiling are parts of a tiling of a set of cells; its further slots have no cell
pub record IsListed (E : Field) (supply : Supply) (tiling : ListedTiling) : Type 0 where
  pub whole : Tiling (all_but E) 8 supply
  pub each : (index : ℕ) → index < most_pieces → HasNoCell (laid_at tiling index).cells
      ⊎ Contains (map laid_part whole.parts) (laid_at tiling index)

-- nothing but tilings of a set of cells by a supply is listed
pub record ListsOnly (E : Field) (supply : Supply) (list : List ListedTiling) : Type 0 where
  pub only : (tiling : ListedTiling) → Contains list tiling → IsListed E supply tiling

-- A placement stands in a tiling of the set: the set has its cells, and what it leaves has a tiling by the others of
-- the supply.
pub record StandsInTiling (E : Field) (supply : Supply) (placement : Placement) : Type 0 where
  pub inside : IsTrue (list_all (has_cell_at E) (cells_of placement))
  pub some : 0 < supply placement.piece
  pub rest : Tiling (all_but (without_placement E placement)) 8 (less_one supply placement.piece)
