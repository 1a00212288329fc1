-- Each lane is shifted to the right.
use Rattle.std.proofs.Common.{◌/◌, ◌^◌}
use Rattle.std.proofs.lemmas.Simd.{zip2_splat}
use Rattle.lane_board.proofs.eights.moved_left.Goals as goal

pub returns : goal.returns
returns c = zip2_splat (λ row k. row / 2 ^ k) c.args.lanes 8 c.args.left c.requires.eight
