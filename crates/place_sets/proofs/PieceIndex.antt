-- The piece with an index.
use Rattle.std.proofs.Common.{◌≡◌, ◌-◌, rules}
use Rattle.srs.specs.declared.piece.Piece.{Piece}
use Rattle.srs.specs.Piece.{piece_code}
use Rattle.place_sets.specs.declared.low_held.LowPlaces.{LowPlaces}
use Rattle.place_sets.specs.LowPlaces.{piece_of}

-- places with the index of a piece are of this piece
pub indexed_piece : (places : LowPlaces) (piece : Piece) → places.kind ≡ piece_code piece - 1 → piece_of places ≡ piece
unfolding piece_of
indexed_piece places piece is = search rules
