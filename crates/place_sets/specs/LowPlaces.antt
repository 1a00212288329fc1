-- What contracts see of places in low rows: which placements they hold.
use Rattle.std.specs.Prelude.{Bool, ◌&&◌, ◌==◌, slice_index_or}
use Rattle.lane_board.specs.Words.{cells_of_words}
use Rattle.srs.specs.declared.placement.Placement.{Placement}
use Rattle.srs.specs.declared.piece.Piece.{Piece}
use Rattle.srs.specs.declared.piece.Piece.TheVariants.{I}
use Rattle.srs.specs.Piece.{all_pieces, piece_code}
use Rattle.srs.specs.Rotation.{rotation_index}
use Rattle.place_sets.specs.declared.low_held.LowPlaces.{LowPlaces}

-- the piece whose placements they are
unfoldable pub piece_of : LowPlaces → Piece
piece_of places = slice_index_or all_pieces places.kind I

-- whether the places hold a placement
unfoldable pub holds : LowPlaces → Placement → Bool
holds places placement = piece_code placement.piece == piece_code (piece_of places)
    && cells_of_words places.words (rotation_index placement.rotation) placement.x placement.y
