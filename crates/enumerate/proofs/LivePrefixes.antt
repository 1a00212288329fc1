-- Every prefix of a solution can be played, and leaves a tiling, as each of its prefixes does.
use Rattle.std.proofs.Common.{◌≡◌, ℕ, ◌+◌, ◌-◌, true, List, [], ◌∷◌, ◌++◌, length, refl, sym, subst, append_assoc, rules}
use Rattle.std.specs.Prelude.{Option}
use Rattle.std.proofs.lemmas.List.{length-append, map-append}
use Rattle.std.proofs.lemmas.Bool.{and_from}
use Rattle.lane_board.specs.Field.{Field}
use Rattle.srs.specs.declared.piece.Piece.{Piece}
use Rattle.srs.specs.declared.placement.Placement.{Placement}
use Rattle.srs.specs.Kick.{Table}
use Rattle.well.specs.Lock.{locked, rows_removed}
use Rattle.moves.specs.declared.key.DropMode.{DropMode}
use Rattle.moves.proofs.CallerLemmas.{is_place-decides}
use Rattle.hold_queue.specs.QueueSet.{QueuesPermit}
use Rattle.hold_queue.proofs.CallerLemmas.{queues_permit-decides}
use Rattle.problem.specs.declared.problem.Problem.{Problem}
use Rattle.problem.specs.Plays.{Plays}
use Rattle.problem.specs.Problem.{IsFit}
use Rattle.problem.specs.Solution.{IsSolution, pieces_of}
use Rattle.problem.proofs.CallerLemmas.{IsLow}
use Rattle.enumerate.specs.SearchState.{SearchState, after_of, can_be_tiled, line_at, root_of}
use Rattle.enumerate.specs.Work.{can_be_played, can_stand, is_live_prefix, stays_tiled}
use Rattle.enumerate.proofs.Members.{low-after}
use Rattle.enumerate.proofs.PermitLaws.{line_permits-front}
use Rattle.enumerate.proofs.SearchLists.{from-solution, root-low}
use Rattle.enumerate.proofs.TilingLaws.{played-tiled}

-- what plays to the end can stand, as far as one looks
stands-front : (table : Table) (mode : DropMode) (F : Field) (rows : ℕ) (front rest : List Placement) → Plays table mode F rows (front ++ rest) → can_stand table mode F rows front ≡ true
unfolding can_stand
stands-front table mode F rows [] rest plays = refl
stands-front table mode F rows (q ∷ front) rest plays =
    search (rules, and_from, is_place-decides, (stands-front table mode (locked F q) (rows - rows_removed F q) front rest))

-- where front and rest play to the end and are permitted, each prefix of the front leaves a tiling
tiled-front : (n : SearchState) (front rest : List Placement) → IsLow n.field n.rows → Plays n.table n.mode n.field n.rows (front ++ rest) → QueuesPermit n.line (n.line.played ++ pieces_of (front ++ rest)) → stays_tiled (length rest) n front ≡ true
unfolding stays_tiled after_of
tiled-front n [] rest low plays permitted = played-tiled n rest low plays permitted
tiled-front n (q ∷ front) rest low plays permitted =
    search (rules, (and_from (can_be_tiled (length rest + length (q ∷ front)) n) (stays_tiled (length rest) (after_of n q) front)), (played-tiled n (q ∷ front ++ rest) low plays permitted), (tiled-front (after_of n q) front rest (low-after n q low plays.1 plays.0) plays.2 (subst (QueuesPermit n.line) (sym (append_assoc n.line.played (q.piece ∷ []) (pieces_of (front ++ rest)))) permitted)), (length-append (q ∷ front) rest))

-- at the root nothing was played
unplayed : (problem : Problem) (queue : Option (List Piece)) → (line_at problem queue).played ≡ []
unplayed problem queue = search rules

pub live-front : (problem : Problem) (queue : Option (List Piece)) (front rest : List Placement) → IsFit problem → IsSolution problem queue (front ++ rest) → is_live_prefix (length rest) (root_of problem queue) front ≡ true
unfolding is_live_prefix can_be_played root_of
live-front problem queue front rest fit solution =
    let root = root_of problem queue in
    let solved = from-solution problem fit queue (front ++ rest) solution in
    search (rules, (map-append (λ q. q.piece) front rest), (unplayed problem queue), (and_from (can_be_played root front) (stays_tiled (length rest) root front)), and_from, (queues_permit-decides root.line (pieces_of front)), (line_permits-front root.line (pieces_of front) (pieces_of rest)), (stands-front root.table root.mode root.field root.rows front rest solved.plays), (tiled-front root front rest (root-low problem fit queue) solved.plays solved.permitted))
