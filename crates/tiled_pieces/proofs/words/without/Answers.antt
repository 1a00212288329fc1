-- The bits that are left.
use Rattle.std.proofs.Common.{bit_and, arith}
use Rattle.std.proofs.lemmas.Nat.{xor_lt, and_le_l}
use Rattle.lane_board.proofs.CallerLemmas.{has_bit-and_not}
use Rattle.tiled_pieces.proofs.words.without.Goals as goal

pub returns-clause-bits : goal.returns-clause-bits
returns-clause-bits c = λ k. has_bit-and_not c.args.cells c.args.others k

pub returns-clause-small : goal.returns-clause-small
returns-clause-small c = λ small. xor_lt 80 c.args.cells (bit_and c.args.cells c.args.others) small (omega (arith, and_le_l c.args.cells c.args.others))
