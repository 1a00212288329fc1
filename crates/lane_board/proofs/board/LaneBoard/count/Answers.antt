-- Eight rows more are counted, and a board has few rows.
use Rattle.std.proofs.Common.{◌+◌, ◌*◌, ◌≤◌, length, ap, arith, rules}
use Rattle.lane_board.specs.Board.{field_of}
use Rattle.lane_board.specs.CellCount.{cell_count}
use Rattle.lane_board.specs.Lanes.{cells_of_bits}
use Rattle.lane_board.proofs.BoardCounts.{cell_count-eight}
use Rattle.lane_board.proofs.BoardRows.{in_eights, few_rows}
use Rattle.lane_board.proofs.CellCounts.{cell_count-le}
use Rattle.lane_board.proofs.board.LaneBoard.count.Goals as goal

pub loop-eight-init : goal.loop-eight-init
unfolding cell_count
loop-eight-init g c = omega arith

pub overflow_add-cells : goal.overflow_add-cells
overflow_add-cells g c =
    let b = c.args.self.now in
    let at = 8 * c.loop-eight.eight in
    let few = few_rows g.row.N b.lane_count in
    let within : at + 8 ≤ length b.rows = omega (arith, b.size) in
    let more = cell_count-eight b.rows at b.in_columns within in
    omega (arith, c.count_in-cells.ensures, cell_count-le (cells_of_bits b.rows) (at + 8), b.size)

pub loop-eight-preserved : goal.loop-eight-preserved
loop-eight-preserved g c =
    let b = c.args.self.now in
    let at = 8 * c.loop-eight.eight in
    let within : at + 8 ≤ length b.rows = omega (arith, b.size) in
    let more = cell_count-eight b.rows at b.in_columns within in
    omega (arith, c.count_in-cells.ensures, ap (cell_count (cells_of_bits b.rows)) {x = 8 * (c.loop-eight.eight + 1)} {y = at + 8} (omega arith))

pub returns : goal.returns
unfolding field_of
returns g c = search (rules, in_eights)
