-- Lists of kinds, and whether one of them is this one.
use Rattle.std.specs.Prelude.{Bool, true, false, ◌&&◌, ◌==◌, List, [], ◌∷◌}
use Rattle.std.specs.List.{list_any}
use Rattle.arrayvec.specs.ArrayVec.{ArrayVec}
use Rattle.srs.specs.declared.piece.Piece.{Piece}
use Rattle.srs.specs.Piece.{piece_code}

abbrev pub listed_kinds : ArrayVec Piece → List Piece
listed_kinds kinds = kinds.items

-- whether two lists are the same, piece by piece
unfoldable pub same_kinds : List Piece → List Piece → Bool
same_kinds [] [] = true
same_kinds [] (piece ∷ pieces) = false
same_kinds (kind ∷ kinds) [] = false
same_kinds (kind ∷ kinds) (piece ∷ pieces) = (piece_code kind == piece_code piece) && same_kinds kinds pieces

unfoldable pub has_kinds : List (List Piece) → List Piece → Bool
has_kinds lists kinds = list_any (same_kinds kinds) lists
