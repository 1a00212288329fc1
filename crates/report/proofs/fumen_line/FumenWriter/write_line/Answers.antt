-- There was no memory for the line, of which nothing was written.
use Rattle.pc_outside.specs.WriteLaws.{at_err, begins, is_front}
use Rattle.report.proofs.fumen_line.FumenWriter.write_line.Goals as goal

pub returns-in_err-text-clause-written : goal.returns-in_err-text-clause-written
returns-in_err-text-clause-written g c = at_err c.from_residual.ensures.0 (is_front (begins _ _))
