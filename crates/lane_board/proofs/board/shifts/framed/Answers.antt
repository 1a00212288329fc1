-- One more eight is moved into the frame.
use Rattle.std.proofs.Common.{rules}
use Rattle.std.proofs.lemmas.Int.{to_z-of_z}
use Rattle.lane_board.proofs.MovedLanes.{framed_none, framed_more, framed_all}
use Rattle.lane_board.proofs.board.shifts.framed.Goals as goal

pub loop-eight-init : goal.loop-eight-init
loop-eight-init g c = framed_none _ c.args.rows.now 50

pub loop-eight-preserved : goal.loop-eight-preserved
loop-eight-preserved g c = search (rules, framed_more)

pub returns : goal.returns
returns g c = search (rules, framed_all, to_z-of_z)
