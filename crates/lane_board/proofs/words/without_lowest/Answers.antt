-- The bit is cleared, and the word is less.
use Rattle.std.proofs.Common.{◌-◌, arith}
use Rattle.std.proofs.lemmas.Nat.{and_le_r}
use Rattle.lane_board.proofs.LowestBits.{has_bit-without}
use Rattle.lane_board.proofs.words.without_lowest.Goals as goal

pub returns-clause-less : goal.returns-clause-less
returns-clause-less c = let small = and_le_r c.args.word (c.args.word - 1) in omega (arith, small, c.requires)

pub returns-clause-bits : goal.returns-clause-bits
returns-clause-bits c = λ bit k lowest within. has_bit-without c.args.word bit k lowest
