-- Hands that some order of a tiling's pieces serves.
use Rattle.std.specs.Prelude.{◌≡◌, ◌+◌, ℕ, Bool, true, List, All, [], ◌∷◌, slice_index}
use Rattle.lane_board.specs.Field.{Field, difference}
use Rattle.lane_board.specs.Lanes.{has_bit}
use Rattle.srs.specs.Piece.{piece_code}
use Rattle.empty_cells.specs.Spans.{HasNoCell}
use Rattle.tiled_pieces.specs.declared.listed.ListedTiling.{ListedTiling}
use Rattle.tiled_pieces.specs.TilingLists.{HasPiece, LaidPiece}
use Rattle.tiled_pieces.specs.Built.{AreBuilt}

-- what pieces leave of a set
unfoldable pub left_by : Field → List LaidPiece → Field
left_by E [] = E
left_by E (laid ∷ more) = left_by (difference E laid.cells) more

-- the number with the weight of a piece's kind
unfoldable pub with_weight : List ℕ → ℕ → LaidPiece → ℕ
with_weight weights number laid = number + slice_index weights (piece_code laid.piece)

-- After each piece in turn the bit is set in what is allowed at the number so far, which is the sum of the weights of
-- the kinds.
unfoldable pub AreAllowed : List ℕ → List ℕ → ℕ → ℕ → List LaidPiece → Type 0
AreAllowed weights allowed bit number [] = Unit {0}
AreAllowed weights allowed bit number (laid ∷ more) =
    (has_bit (slice_index allowed (with_weight weights number laid)) bit ≡ true)
    × AreAllowed weights allowed bit (with_weight weights number laid) more

-- Some pieces of a tiling use up a set in an order in which they can be put into it, and in which they are allowed.
pub record IsServed (tiling : ListedTiling) (E : Field) (drops : Bool) (weights allowed : List ℕ) (bit : ℕ) : Type 0 where
  pub order : List LaidPiece
  pub pieces : All (HasPiece tiling) order
  pub built : AreBuilt E drops order
  pub uses_up : HasNoCell (left_by E order)
  pub permitted : AreAllowed weights allowed bit 0 order
