-- How a set of pivots turns: each pivot goes to where the first test that succeeds takes it.
use Rattle.std.specs.Prelude.{ℕ, neg_ℤ, List, [], ◌∷◌}
use Rattle.lane_board.specs.Field.{Field, intersection, union, difference, moved_within}
use Rattle.srs.specs.Cells.{Cell}

-- the move back
abbrev pub reversed : Cell → Cell
reversed move = (neg_ℤ move.0, neg_ℤ move.1)

-- the free pivots that one test takes these pivots to
unfoldable pub kicked_to : Field → ℕ → Cell → Field → Field
kicked_to free N move S = intersection free (moved_within S N move.0 move.1)

-- the pivots that the test leaves to the tests after it, where those that it takes them to are given
unfoldable pub left_by : ℕ → Cell → Field → Field → Field
left_by N move hits S = difference S (moved_within hits N (reversed move).0 (reversed move).1)

-- those that are reached before, and those that these tests take the pivots to, one after the other
unfoldable pub turned_from : Field → ℕ → List Cell → Field → Field → Field
turned_from free N [] S before = before
turned_from free N (move ∷ moves) S before = turned_from free N moves (left_by N move (kicked_to free N move S) S)
    (union before (kicked_to free N move S))
