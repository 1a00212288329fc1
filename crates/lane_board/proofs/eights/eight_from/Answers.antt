-- Each choice is a range of the sixteen rows.
use Rattle.std.proofs.Common.{arith}
use Rattle.lane_board.proofs.EightRows.{eight_of, low_eight, high_eight}
use Rattle.lane_board.proofs.eights.eight_from.Goals as goal
use Rattle.lane_board.proofs.eights.eight_from.Goals.{in-0, in-1, in-2, in-3, in-4, in-5, in-6, in-7, in_default}

pub returns-clause-lanes : goal.returns-clause-lanes
returns-clause-lanes c = elim c.match-from.branch [
  | in-0 w ↦ low_eight c.args.from c.args.low c.args.high c.match-from.result c.requires.low w.result-is w.in-0.is
  | in-1 w ↦ eight_of c.args.from 1 c.args.low c.args.high c.match-from.result c.requires.low c.requires.high (omega arith) w.result-is w.in-1.is
  | in-2 w ↦ eight_of c.args.from 2 c.args.low c.args.high c.match-from.result c.requires.low c.requires.high (omega arith) w.result-is w.in-2.is
  | in-3 w ↦ eight_of c.args.from 3 c.args.low c.args.high c.match-from.result c.requires.low c.requires.high (omega arith) w.result-is w.in-3.is
  | in-4 w ↦ eight_of c.args.from 4 c.args.low c.args.high c.match-from.result c.requires.low c.requires.high (omega arith) w.result-is w.in-4.is
  | in-5 w ↦ eight_of c.args.from 5 c.args.low c.args.high c.match-from.result c.requires.low c.requires.high (omega arith) w.result-is w.in-5.is
  | in-6 w ↦ eight_of c.args.from 6 c.args.low c.args.high c.match-from.result c.requires.low c.requires.high (omega arith) w.result-is w.in-6.is
  | in-7 w ↦ eight_of c.args.from 7 c.args.low c.args.high c.match-from.result c.requires.low c.requires.high (omega arith) w.result-is w.in-7.is
  | in_default w ↦ high_eight c.args.from c.args.low c.args.high c.match-from.result c.requires.low w.result-is (omega arith)
]
