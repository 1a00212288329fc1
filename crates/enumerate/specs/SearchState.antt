-- States of a search: the rules, a field, the rows that are left, and the queues with the pieces that were played.
use Rattle.std.specs.Prelude.{ℕ, suc, ◌-◌, Bool, Option, Some, None, List, [], ◌∷◌, ◌++◌}
use Rattle.lane_board.specs.Field.{Field}
use Rattle.srs.specs.declared.piece.Piece.{Piece}
use Rattle.srs.specs.declared.placement.Placement.{Placement}
use Rattle.srs.specs.Kick.{Table}
use Rattle.srs.specs.Rules.{table_of}
use Rattle.well.specs.Well.{filled}
use Rattle.well.specs.Lock.{locked, rows_removed}
use Rattle.moves.specs.declared.key.DropMode.{DropMode}
use Rattle.moves.specs.PlaceTest.{places_in}
use Rattle.queue_pattern.specs.Grammar.{singles}
use Rattle.queue_pattern.specs.Pattern.{elements_of}
use Rattle.hold_queue.specs.QueueSet.{QueuesInPlay, queues_permit}
use Rattle.hold_queue.specs.Supply.{supply_in_play}
use Rattle.empty_cells.specs.HasTiling.{has_tiling}
use Rattle.problem.specs.declared.problem.Problem.{Problem}

pub record SearchState : Type 0 where
  pub table : Table
  pub mode : DropMode
  pub field : Field
  pub rows : ℕ
  pub line : QueuesInPlay

-- the queues after one more piece
abbrev pub line_after : QueuesInPlay → Piece → QueuesInPlay
line_after line piece = record line { played = line.played ++ piece ∷ [] }

-- the state after one more placement
unfoldable pub after_of : SearchState → Placement → SearchState
after_of n q = record {
  table = n.table;
  mode = n.mode;
  field = locked n.field q;
  rows = n.rows - rows_removed n.field q;
  line = line_after n.line q.piece;
}

-- some queue permits the played pieces and then this one
unfoldable pub may_play : QueuesInPlay → Piece → Bool
may_play line piece = queues_permit line (line.played ++ piece ∷ [])

-- the places of a piece in a state
abbrev pub places_at : SearchState → Piece → List Placement
places_at n piece = places_in n.table n.mode n.field piece

-- the empty cells of the rows left have a tiling by what may still be played, with so many placements to come
unfoldable pub can_be_tiled : ℕ → SearchState → Bool
can_be_tiled left n = has_tiling n.field n.rows (supply_in_play n.line left)

-- whether a state is worth a look, with so many placements to come after the next one
unfoldable pub is_live : ℕ → SearchState → Bool
is_live left n = can_be_tiled (suc left) n

-- the queues that count, with nothing played: one of them alone, or all of the pattern
abbrev pub line_at : Problem → Option (List Piece) → QueuesInPlay
line_at problem None = record {
  elements = elements_of problem.pattern;
  hold = problem.hold;
  held = problem.held;
  played = [];
}
line_at problem (Some queue) = record {
  elements = singles queue;
  hold = problem.hold;
  held = problem.held;
  played = [];
}

-- the state at which a search begins
unfoldable pub root_of : Problem → Option (List Piece) → SearchState
root_of problem queue = record {
  table = table_of problem.rules;
  mode = problem.drop_mode;
  field = filled problem.well;
  rows = problem.height;
  line = line_at problem queue;
}
