-- The order of queues.
use Rattle.std.specs.Prelude.{List}
use Rattle.std.specs.Ordering.{nat_cmp}
use Rattle.std.specs.declared.cmp.Ordering.{Ordering}
use Rattle.std.specs.Cmp.Lexicographic.{slice_cmp}
use Rattle.srs.specs.declared.piece.Piece.{Piece}
use Rattle.srs.specs.Piece.{piece_code}

-- by code
abbrev pub piece_cmp : Piece → Piece → Ordering
piece_cmp p q = nat_cmp (piece_code p) (piece_code q)

-- place by place, the first difference deciding
abbrev pub queue_cmp : List Piece → List Piece → Ordering
queue_cmp = slice_cmp piece_cmp
