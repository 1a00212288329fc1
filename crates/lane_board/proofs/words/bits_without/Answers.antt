-- The bits of the one that aren't in the other; of none, none is left.
use Rattle.std.proofs.Common.{rules}
use Rattle.lane_board.proofs.RowBits.{has_bit-and_not, has_bit-zero, same_from_columns}
use Rattle.lane_board.proofs.words.bits_without.Goals as goal

pub returns-clause-bits : goal.returns-clause-bits
returns-clause-bits c = λ k. has_bit-and_not c.args.word c.args.others k

pub returns-clause-nothing : goal.returns-clause-nothing
returns-clause-nothing c = search (rules, same_from_columns, has_bit-and_not, has_bit-zero)
