-- A quarter turn of a set of lane states on N lanes, where all inside ones above the lanes count as free. The lane
-- state of a state is the column of its canonical pivot, and its lane: so states with the same cells have the same one.
use Rattle.std.specs.Prelude.{ℕ, ◌&&◌, nat_lt, pos, ◌+ℤ◌, ◌-ℤ◌, if◌then◌else◌, List, [], ◌∷◌, map}
use Rattle.lane_board.specs.Field.{Field, has_cell, union, difference, moved_within}
use Rattle.srs.specs.declared.piece.Piece.{Piece}
use Rattle.srs.specs.declared.rotation.Rotation.{Rotation}
use Rattle.srs.specs.Canonical.{canonical_rotation, canonical_move}
use Rattle.srs.specs.Cells.{Cell, shape}
use Rattle.srs.specs.Kick.{srs_table, kicks_of}
use Rattle.moves.specs.Height.{fits_column}
use Rattle.moves.specs.Lanes.{lowest}

-- the free lane states, and above the lanes all inside ones
unfoldable pub opened : Piece → Rotation → ℕ → Field → Field
opened piece rotation N free x y = if nat_lt y N then free x y else fits_column piece rotation (pos x)

-- what a kick moves a lane state by
abbrev pub lane_move : Piece → Rotation → Rotation → Cell → Cell
lane_move piece from to kick = (
  kick.0 +ℤ ((canonical_move piece to).0 -ℤ (canonical_move piece from).0),
  kick.1 +ℤ (lowest (shape piece to) -ℤ lowest (shape piece from)),
)

-- the lane states that a move takes to an open one
unfoldable pub hits : Field → Cell → Field → Field
hits open_states move S x y = S x y && has_cell open_states (pos x +ℤ move.0) (pos y +ℤ move.1)

-- what these moves take the lane states to, one test after the other, and those before
unfoldable pub lane_turned : Field → ℕ → List Cell → Field → Field → Field
lane_turned open_states N [] S before = before
lane_turned open_states N (move ∷ moves) S before =
    lane_turned open_states N moves (difference S (hits open_states move S))
    (union before (moved_within (hits open_states move S) N move.0 move.1))

-- the arrivals of a quarter turn
abbrev pub arrivals : Piece → Rotation → Rotation → ℕ → Field → Field → Field → Field
arrivals piece from to N free S before =
    lane_turned (opened piece (canonical_rotation piece to) N free) N
    (map (lane_move piece from to) (kicks_of srs_table piece from to)) S before
