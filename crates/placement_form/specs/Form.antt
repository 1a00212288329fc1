-- The text of a placement.
use Rattle.std.specs.Prelude.{◌≡◌, ℕ, List, [], ◌∷◌, ◌++◌, decimal}
use Rattle.srs.specs.declared.placement.Placement.{Placement}
use Rattle.srs.specs.Piece.{piece_letter}
use Rattle.srs.specs.Rotation.{rotation_letter}
use Rattle.srs.specs.Cells.{HasPivotInWell}

-- piece letter, rotation letter, a colon, the column, a comma and the row, as `T0:4,0`
unfoldable pub placement_form : Placement → List ℕ
placement_form placement =
    (piece_letter placement.piece ∷ rotation_letter placement.rotation ∷ 58 ∷ []) ++ decimal placement.x ++ 44 ∷ []
    ++ decimal placement.y

-- a text is what is written of a placement with its pivot in the well
pub record IsPlacementText (text : List ℕ) (placement : Placement) : Type 0 where
  pub pivot : HasPivotInWell placement
  pub written : text ≡ placement_form placement
