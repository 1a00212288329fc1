-- The two operators, lane by lane.
use Rattle.std.proofs.Common.{bit_and, bit_xor}
use Rattle.lane_board.proofs.EightRows.{zip2_first}
use Rattle.lane_board.proofs.eights.AndNotCombine.of_lanes.Goals as goal

pub returns : goal.returns
returns c = zip2_first bit_xor bit_and c.args.a c.args.b
