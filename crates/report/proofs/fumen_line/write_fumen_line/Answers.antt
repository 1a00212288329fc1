-- There was no memory for a writer, and nothing was written.
use Rattle.pc_outside.specs.WriteLaws.{at_err, begins, is_front}
use Rattle.report.proofs.fumen_line.write_fumen_line.Goals as goal

pub returns-in_err-writer-clause-written : goal.returns-in_err-writer-clause-written
returns-in_err-writer-clause-written g c = at_err c.from_residual.ensures.0 (is_front (begins _ _))
