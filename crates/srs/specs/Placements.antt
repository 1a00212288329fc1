-- The list of all canonical placements of a piece inside the well.
use Rattle.std.specs.Prelude.{◌≡◌, Bool, ◌&&◌, IsTrue, map, filter, List}
use Rattle.std.specs.List.{flat_map, range_with_len}
use Rattle.srs.specs.declared.piece.Piece.{Piece}
use Rattle.srs.specs.declared.placement.Placement.{Placement}
use Rattle.srs.specs.Rotation.{all_rotations}
use Rattle.srs.specs.Cells.{is_inside_of}
use Rattle.srs.specs.Canonical.{IsCanonical, is_canonical}

-- a placement of this piece that is canonical and inside
pub record IsCanonicalInside (piece : Piece) (placement : Placement) : Type 0 where
  pub kind : placement.piece ≡ piece
  pub canonical : IsCanonical placement
  pub inside : IsTrue (is_inside_of placement)

-- the placements of a piece with the pivot in the well: by rotation, then from the lowest row up, then from left to
-- right
abbrev pub placements_by_pivot : Piece → List Placement
placements_by_pivot piece =
    flat_map (λ rotation. flat_map (λ y. map (λ x. record { piece = piece; rotation = rotation; x = x; y = y })
    (range_with_len 0 10)) (range_with_len 0 23)) all_rotations

abbrev pub is_canonical_inside : Placement → Bool
is_canonical_inside placement = is_canonical placement && is_inside_of placement

-- those of them that are canonical and inside
unfoldable pub placements_of : Piece → List Placement
placements_of piece = filter is_canonical_inside (placements_by_pivot piece)
