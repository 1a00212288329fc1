-- A supply less one piece: what a tiling without one of its parts is of.
use Rattle.std.specs.Prelude.{◌-◌, ◌==◌, if◌then◌else◌}
use Rattle.srs.specs.declared.piece.Piece.{Piece}
use Rattle.srs.specs.Piece.{piece_code}
use Rattle.prune.specs.Tiling.{Supply}

-- one piece of this kind fewer, or none where there was none
unfoldable pub less_one : Supply → Piece → Supply
less_one supply piece other = if piece_code piece == piece_code other then supply other - 1 else supply other
