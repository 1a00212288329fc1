-- The placements that a frame may lock.
use Rattle.std.specs.Prelude.{Bool, ◌&&◌, ◌==◌}
use Rattle.lane_board.specs.Field.{Field}
use Rattle.srs.specs.declared.piece.Piece.{Piece}
use Rattle.srs.specs.declared.placement.Placement.{Placement}
use Rattle.srs.specs.Piece.{piece_code}
use Rattle.srs.specs.Placements.{is_canonical_inside}
use Rattle.well.specs.Free.{is_free}

-- a placement of this piece that is canonical, inside and free
unfoldable pub may_lock : Field → Piece → Placement → Bool
may_lock F piece q = (piece_code q.piece == piece_code piece) && (is_canonical_inside q && is_free F q)
