-- Whether a queue is covered is decided by a test.
use Rattle.cover.proofs.CoveredExists.{covered-list}
use Rattle.cover.proofs.laws.covered_lists_exist.Goals as goal

pub returns : goal.returns
returns c = λ problem sequences fit. covered-list problem fit sequences
