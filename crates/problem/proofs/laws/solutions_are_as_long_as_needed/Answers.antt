-- The empty cells fall by four with each placement, to none.
use Rattle.problem.proofs.NeededCount.{long-needed}
use Rattle.problem.proofs.laws.solutions_are_as_long_as_needed.Goals as goal

pub returns : goal.returns
returns c = λ problem queue s fit solution. long-needed problem fit s solution.plays
