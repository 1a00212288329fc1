use Rattle.tails.proofs.RestSteps.{HasSent}
use Rattle.tails.proofs.rests.push_rests.Given as goal

abbrev pub invariant-loop-taking : goal.invariant-loop-taking
invariant-loop-taking l = HasSent l.fn.block l.fn.rests.items l.takings l.taking-index l.rests.items
