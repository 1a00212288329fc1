-- Sets of placements of one piece, by their pivots.
use Rattle.std.specs.Prelude.{Bool}
use Rattle.lane_board.specs.Words.{cells_of_words}
use Rattle.srs.specs.declared.placement.Placement.{Placement}
use Rattle.srs.specs.Rotation.{rotation_index}
use Rattle.empty_cells.specs.declared.pivot_words.PivotWords.{PivotWords}

-- whether a set has a placement, whatever its piece
unfoldable pub has_placement : PivotWords → Placement → Bool
has_placement pivots placement =
    cells_of_words pivots.rotations (rotation_index placement.rotation) placement.x placement.y
