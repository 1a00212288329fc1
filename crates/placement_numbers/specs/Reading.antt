-- How numbers are read as placements.
use Rattle.std.specs.Prelude.{ℕ, nat_le, ◌&&◌, ◌==◌, if◌then◌else◌, List, [], ◌∷◌, Option, Some, None, find, option_and_then}
use Rattle.srs.specs.declared.placement.Placement.{Placement}
use Rattle.srs.specs.declared.rotation.Rotation.{Rotation}
use Rattle.srs.specs.Piece.{piece_with_code}
use Rattle.srs.specs.Rotation.{all_rotations, rotation_index}

-- the rotation with this index in the order 0, R, 2, L
abbrev pub rotation_at : ℕ → Option Rotation
rotation_at index = find (λ rotation. rotation_index rotation == index) all_rotations

-- the placement with these four numbers and its pivot in the well
unfoldable pub placement_in : (code index column row : ℕ) → Option Placement
placement_in code index column row =
    option_and_then (λ piece. option_and_then (λ rotation.
    if nat_le column 9 && nat_le row 22
    then Some (record { piece = piece; rotation = rotation; x = column; y = row }) else None)
    (rotation_at index)) (piece_with_code code)

-- the placements with these numbers, four each
unfoldable pub placements_in : List ℕ → Option (List Placement)
placements_in [] = Some []
placements_in (code ∷ index ∷ column ∷ row ∷ rest) =
    option_and_then (λ first. option_and_then (λ more. Some (first ∷ more)) (placements_in rest))
    (placement_in code index column row)
placements_in fewer = None
