-- The code is that of the status of the run.
use Rattle.std.proofs.Common.{sym, subst}
use Rattle.pc_cli.specs.Edge.{IsExitStatus}
use Rattle.pc_cli.proofs.ExitCodes.{one_of_five}
use Rattle.pc_cli.proofs.edge.exit_code.Goals as goal

pub returns-clause-status : goal.returns-clause-status
returns-clause-status g c = subst IsExitStatus (sym c.code.ensures) (one_of_five c.run.result)

pub returns-clause-ended : goal.returns-clause-ended
returns-clause-ended g c = record { status = c.run.result; is = c.code.ensures; holds = c.run.ensures }
