-- The sink tells nothing of what it holds.
use Rattle.pc_outside.specs.WriteLaws.{writes_untold}
use Rattle.worked_runs.proofs.left_alone.WornSink.write.Goals as goal

pub returns-then-self-eq0-clause-written : goal.returns-then-self-eq0-clause-written
returns-then-self-eq0-clause-written c = writes_untold
