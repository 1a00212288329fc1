-- A bit is in either word.
use Rattle.lane_board.proofs.RowBits.{has_bit-or}
use Rattle.lane_board.proofs.words.bits_of_either.Goals as goal

pub returns : goal.returns
returns c = λ k. has_bit-or c.args.one c.args.other k
