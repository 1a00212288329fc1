-- The bits of eight rows more, and what all of them tell.
use Rattle.std.proofs.Common.{◌+◌, ◌*◌, rules}
use Rattle.lane_board.specs.Board.{field_of}
use Rattle.lane_board.proofs.FullMask.{eight_more, mask_tells}
use Rattle.lane_board.proofs.board.LaneBoard.full_rows.Goals as goal

pub loop-eight-preserved : goal.loop-eight-preserved
loop-eight-preserved g c = search (rules, (eight_more c.loop-eight.full c.full_in.result (8 * c.loop-eight.eight) c.args.self.now.rows (8 * (c.loop-eight.eight + 1))))

pub returns : goal.returns
unfolding field_of
returns g c = search (rules, (mask_tells c.args.self.now.rows g.row.N (8 * c.loop-eight.eight) c.loop-eight.full))
