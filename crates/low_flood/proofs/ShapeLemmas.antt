-- The four cells of a shape, counted from its lowest cell.
use Rattle.std.proofs.Common.{◌≡◌, ℕ, true, ℤ, ◌-ℤ◌, List, [], ◌∷◌, length, map, refl, arith}
use Rattle.std.specs.List.{list_all}
use Rattle.std.specs.Prelude.{slice_index_or}
use Rattle.srs.specs.declared.piece.Piece.{Piece}
use Rattle.srs.specs.declared.rotation.Rotation.{Rotation}
use Rattle.srs.specs.Cells.{Cell, shape}
use Rattle.srs.proofs.CallerLemmas.{each_state, shape_length}
use Rattle.moves.specs.Lanes.{lowest}
use Rattle.low_flood.specs.LaneShapes.{from_lane, lane_cells, is_near_lane}

-- a list of four, item by item
four_items : (f : Cell → Cell) (origin : Cell) (cells : List Cell) → length cells ≡ 4 →
    map f cells ≡ f (slice_index_or cells 0 origin) ∷ f (slice_index_or cells 1 origin)
    ∷ f (slice_index_or cells 2 origin) ∷ f (slice_index_or cells 3 origin) ∷ []
four_items f origin [] four = absurd (omega (arith, four))
four_items f origin (a ∷ []) four = absurd (omega (arith, four))
four_items f origin (a ∷ b ∷ []) four = absurd (omega (arith, four))
four_items f origin (a ∷ b ∷ c ∷ []) four = absurd (omega (arith, four))
four_items f origin (a ∷ b ∷ c ∷ d ∷ []) four = refl
four_items f origin (a ∷ b ∷ c ∷ d ∷ e ∷ cells) four = absurd (omega (arith, four))

lane_cells-four : (piece : Piece) (rotation : Rotation) (origin : Cell) →
    lane_cells piece rotation
    ≡ from_lane piece rotation (slice_index_or (shape piece rotation) 0 origin)
    ∷ from_lane piece rotation (slice_index_or (shape piece rotation) 1 origin)
    ∷ from_lane piece rotation (slice_index_or (shape piece rotation) 2 origin)
    ∷ from_lane piece rotation (slice_index_or (shape piece rotation) 3 origin) ∷ []
lane_cells-four piece rotation origin = four_items (from_lane piece rotation) origin (shape piece rotation) (shape_length piece rotation)

-- the cell of a shape with an index, counted from a row
abbrev pub counted : List Cell → ℤ → Cell → ℕ → Cell
counted cells row origin k = ((slice_index_or cells k origin).0, (slice_index_or cells k origin).1 -ℤ row)

pub lane_cells-are : (piece : Piece) (rotation : Rotation) (origin : Cell) (cells : List Cell) (row : ℤ) (a b c d : Cell) →
    cells ≡ shape piece rotation → row ≡ lowest (shape piece rotation) →
    a ≡ counted cells row origin 0 → b ≡ counted cells row origin 1 → c ≡ counted cells row origin 2 → d ≡ counted cells row origin 3 →
    a ∷ b ∷ c ∷ d ∷ [] ≡ lane_cells piece rotation
lane_cells-are piece rotation origin cells row a b c d cells_are row_is a_is b_is c_is d_is =
    rw (lane_cells-four piece rotation origin, a_is, b_is, c_is, d_is, cells_are, row_is) refl

-- all cells are near the lowest one
pub lane_cells-near : (piece : Piece) (rotation : Rotation) → list_all is_near_lane (lane_cells piece rotation) ≡ true
lane_cells-near = each_state (λ p r. list_all is_near_lane (lane_cells p r)) refl
