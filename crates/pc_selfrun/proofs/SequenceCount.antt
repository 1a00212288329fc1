-- A problem that needs four placements has fewer solutions than 2 ^ 64.
use Rattle.std.proofs.Common.{◌≡◌, ◌∙◌, ℕ, ◌-◌, ◌<◌, ◌^◌, List, [], ◌∷◌, length, None, arith}
use Rattle.std.specs.List.{AllByRecursion}
use Rattle.lane_board.specs.Field.{Field}
use Rattle.srs.specs.declared.placement.Placement.{Placement}
use Rattle.srs.specs.Kick.{Table}
use Rattle.srs.specs.Rules.{table_of}
use Rattle.srs.proofs.CallerLemmas.{pivot_inside}
use Rattle.srs.specs.Cells.{HasPivotInWell}
use Rattle.well.specs.Lock.{locked, rows_removed}
use Rattle.well.specs.Well.{filled}
use Rattle.moves.specs.declared.key.DropMode.{DropMode}
use Rattle.problem.specs.declared.problem.Problem.{Problem}
use Rattle.problem.specs.Plays.{Plays}
use Rattle.problem.specs.Problem.{IsFit, needed_of}
use Rattle.problem.specs.SolutionList.{IsList}
use Rattle.problem.proofs.CallerLemmas.{long-needed}
use Rattle.well.proofs.CallerLemmas.{free_inside}
use Rattle.moves.proofs.CallerLemmas.{place-free}
use Rattle.pc_selfrun.proofs.SequenceNumbers.{few_sequences}

plays_inside : (table : Table) (mode : DropMode) (F : Field) (rows : ℕ) (s : List Placement) → Plays table mode F rows s → AllByRecursion HasPivotInWell s
plays_inside table mode F rows [] plays = tt
plays_inside table mode F rows (q ∷ rest) plays =
    (pivot_inside q (free_inside F q (place-free table F mode q plays.0)), plays_inside table mode (locked F q) (rows - rows_removed F q) rest plays.2)

-- a list of solutions of four placements each is counted in 64 bits
pub few_solutions : (problem : Problem) (xs : List (List Placement)) → IsFit problem → needed_of problem ≡ 4 → IsList (record { problem = problem; queue = None; bound = None }) xs → length xs < 2 ^ 64
few_solutions problem xs fit needed list =
    let most = few_sequences xs list.rising (λ s among.
    let plays = ((list.members s).0 among).solution.plays in
    record {
      four = long-needed problem fit s plays ∙ needed;
      inside = plays_inside (table_of problem.rules) problem.drop_mode (filled problem.well) problem.height s plays;
    }) in
    omega (arith, most)
