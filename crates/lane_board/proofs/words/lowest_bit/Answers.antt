-- As many zeros stand below the lowest bit as its index says.
use Rattle.lane_board.proofs.LowestBits.{lowest-is}
use Rattle.lane_board.proofs.words.lowest_bit.Goals as goal

pub returns-clause-lowest : goal.returns-clause-lowest
returns-clause-lowest c = lowest-is c.args.word c.requires c.ranges.word.fits
