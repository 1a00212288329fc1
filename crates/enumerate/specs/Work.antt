-- The floods that a whole search makes: one for each unfinished prefix that is live and each kind that may come next.
use Rattle.std.specs.Prelude.{ℕ, zero, suc, ◌+◌, ◌-◌, Bool, true, ◌&&◌, if◌then◌else◌, Option, List, [], ◌∷◌, ◌++◌, length, sum_by}
use Rattle.lane_board.specs.Field.{Field}
use Rattle.srs.specs.declared.piece.Piece.{Piece}
use Rattle.srs.specs.declared.placement.Placement.{Placement}
use Rattle.srs.specs.Piece.{all_pieces}
use Rattle.srs.specs.Kick.{Table}
use Rattle.srs.specs.Placements.{placements_of}
use Rattle.well.specs.Lock.{locked, rows_removed}
use Rattle.moves.specs.declared.key.DropMode.{DropMode}
use Rattle.moves.specs.PlaceTest.{is_place}
use Rattle.hold_queue.specs.QueueSet.{queues_permit}
use Rattle.problem.specs.declared.problem.Problem.{Problem}
use Rattle.well.specs.LockLaws.{is_below}
use Rattle.problem.specs.Problem.{needed_of}
use Rattle.problem.specs.Solution.{pieces_of}
use Rattle.enumerate.specs.SearchState.{SearchState, after_of, can_be_tiled, root_of}

-- each placement is a place in the field before it and lies below the rows left there
unfoldable pub can_stand : Table → DropMode → Field → ℕ → List Placement → Bool
can_stand table mode F rows [] = true
can_stand table mode F rows (q ∷ rest) =
    (is_place table F mode q && is_below rows q) && can_stand table mode (locked F q) (rows - rows_removed F q) rest

-- from a state: some queue permits the prefix, and its placements can stand
unfoldable pub can_be_played : SearchState → List Placement → Bool
can_be_played root prefix = queues_permit root.line (pieces_of prefix)
    && can_stand root.table root.mode root.field root.rows prefix

-- with so many placements to come after the prefix: before each placement of it and after the last one, the empty
-- cells of the rows left have a tiling by what may still be played there
unfoldable pub stays_tiled : ℕ → SearchState → List Placement → Bool
stays_tiled left n [] = can_be_tiled left n
stays_tiled left n (q ∷ rest) = can_be_tiled (left + length (q ∷ rest)) n && stays_tiled left (after_of n q) rest

-- the prefix can be played, and each of its prefixes, the empty one and itself included, leaves a tiling
unfoldable pub is_live_prefix : ℕ → SearchState → List Placement → Bool
is_live_prefix left root prefix = can_be_played root prefix && stays_tiled left root prefix

-- the floods at a prefix with so many placements to come and at all that begin with it
unfoldable pub work_from : ℕ → SearchState → List Placement → ℕ
work_from zero root prefix = 0
work_from (suc left) root prefix =
    if is_live_prefix (suc left) root prefix then
    sum_by (λ piece. if queues_permit root.line (pieces_of prefix ++ piece ∷ []) then
    1 + sum_by (λ q. work_from left root (prefix ++ q ∷ [])) (placements_of piece) else 0) all_pieces
    else 0

-- the pairs of an unfinished live prefix and a kind that may come next
unfoldable pub pairs : Problem → Option (List Piece) → ℕ
pairs problem queue = work_from (needed_of problem) (root_of problem queue) []
