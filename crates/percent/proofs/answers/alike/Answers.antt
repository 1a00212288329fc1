-- The quotient of the numbers of queues.
use Rattle.percent.proofs.StartLemmas.{begin-alike}
use Rattle.percent.proofs.answers.alike.Goals as goal

pub returns : goal.returns
returns c = begin-alike c.args.problem.now c.args.tree.now c.count.result c.count-2.result c.requires c.count.ensures.number c.count-2.ensures.number
