-- What contracts see of places: which placements they hold.
use Rattle.std.specs.Prelude.{Bool, ◌&&◌, ◌==◌}
use Rattle.srs.specs.declared.placement.Placement.{Placement}
use Rattle.srs.specs.declared.piece.Piece.{Piece}
use Rattle.srs.specs.Piece.{piece_code}
use Rattle.place_sets.specs.declared.held.Places.{Places}
use Rattle.place_sets.specs.Numbers.{states_in}
use Rattle.place_sets.specs.States.{has_state}

-- the piece whose placements they are
unfoldable pub piece_of : Places → Piece
piece_of places = places.piece

-- whether the places hold a placement
unfoldable pub holds : Places → Placement → Bool
holds places placement = piece_code placement.piece == piece_code places.piece
    && has_state (states_in places.numbers) placement
