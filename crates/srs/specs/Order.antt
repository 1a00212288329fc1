-- The order of placements, and that of sequences of placements.
use Rattle.std.specs.Prelude.{List}
use Rattle.std.specs.Ordering.{ordering_then, nat_cmp}
use Rattle.std.specs.declared.cmp.Ordering.{Ordering}
use Rattle.std.specs.Cmp.Lexicographic.{slice_cmp}
use Rattle.srs.specs.declared.placement.Placement.{Placement}
use Rattle.srs.specs.Piece.{piece_code}
use Rattle.srs.specs.Rotation.{rotation_index}

-- by piece code, then by rotation in the order 0, R, 2, L, then by row, then by column
abbrev pub placement_cmp : Placement → Placement → Ordering
placement_cmp s t =
    ordering_then (nat_cmp (piece_code s.piece) (piece_code t.piece))
    (ordering_then (nat_cmp (rotation_index s.rotation) (rotation_index t.rotation))
    (ordering_then (nat_cmp s.y t.y) (nat_cmp s.x t.x)))

-- placement by placement, the first difference deciding; a sequence that begins another one comes before it
abbrev pub sequence_cmp : List Placement → List Placement → Ordering
sequence_cmp = slice_cmp placement_cmp
