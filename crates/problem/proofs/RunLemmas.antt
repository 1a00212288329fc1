-- How long a run can be.
use Rattle.std.proofs.Common.{◌*◌, ◌≤◌, List, [], ◌∷◌, length, arith}
use Rattle.lane_board.specs.Field.{Field}
use Rattle.lane_board.specs.CellCount.{cell_count}
use Rattle.srs.specs.declared.placement.Placement.{Placement}
use Rattle.srs.specs.Kick.{Table}
use Rattle.well.specs.Lock.{locked}
use Rattle.well.proofs.CallerLemmas.{adds_four_cells}
use Rattle.moves.specs.declared.key.DropMode.{DropMode}
use Rattle.moves.proofs.CallerLemmas.{place-free}
use Rattle.problem.specs.Runs.{Runs}

-- each placement adds four cells and removes ten or more
pub runs_take_cells : (table : Table) (mode : DropMode) (F : Field) (run : List Placement) → Runs table mode F run → 6 * length run ≤ cell_count F 23
runs_take_cells table mode F [] runs = omega arith
runs_take_cells table mode F (q ∷ run) runs =
    let counted = adds_four_cells F q (place-free table F mode q runs.0) in
    let rest = runs_take_cells table mode (locked F q) run runs.2 in
    let removes = runs.1 in
    omega (arith, counted, rest, removes)
