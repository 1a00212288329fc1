-- There was no memory for the line, of which nothing was written.
use Rattle.pc_outside.specs.WriteLaws.{at_err, begins, is_front}
use Rattle.pc_pages.proofs.decode.write_line.Goals as goal

pub returns-in_err-line-clause-written : goal.returns-in_err-line-clause-written
returns-in_err-line-clause-written g c = at_err c.from_residual.ensures.0 (is_front (begins _ _))
