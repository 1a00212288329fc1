-- The last placement completes a solution or nothing.
use Rattle.enumerate.proofs.frame.Frame.enter.Goals as goal

pub returns-then-self-eq0-clause-enters : goal.returns-then-self-eq0-clause-enters
returns-then-self-eq0-clause-enters c = c.complete.ensures _
