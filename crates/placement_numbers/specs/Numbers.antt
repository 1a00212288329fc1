-- A placement as four numbers, and a sequence as the numbers of its placements, one after the other.
use Rattle.std.specs.Prelude.{◌≡◌, ℕ, List, [], ◌∷◌, length, All}
use Rattle.std.specs.List.{flat_map}
use Rattle.srs.specs.declared.placement.Placement.{Placement}
use Rattle.srs.specs.Piece.{piece_code}
use Rattle.srs.specs.Rotation.{rotation_index}
use Rattle.srs.specs.Cells.{HasPivotInWell}

-- the code of the piece, the index of the rotation in the order 0, R, 2, L, and the column and the row of the pivot
abbrev pub numbers_of : Placement → List ℕ
numbers_of placement =
    piece_code placement.piece ∷ rotation_index placement.rotation ∷ placement.x ∷ placement.y ∷ []

abbrev pub sequence_numbers : List Placement → List ℕ
sequence_numbers sequence = flat_map numbers_of sequence

-- the numbers of a sequence of so many placements, each with its pivot in the well
pub record AreNumbersOf (needed : ℕ) (numbers : List ℕ) (sequence : List Placement) : Type 0 where
  pub are : numbers ≡ sequence_numbers sequence
  pub count : length sequence ≡ needed
  pub within : All HasPivotInWell sequence
