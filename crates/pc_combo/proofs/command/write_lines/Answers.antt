-- The line of the run, and then that of their number.
use Rattle.std.proofs.Common.{refl}
use Rattle.pc_outside.specs.WriteLaws.{after_piece, at_err, begins, failed_piece, last_call}
use Rattle.pc_combo.specs.Output.{combo_form}
use Rattle.pc_combo.proofs.command.write_lines.Goals as goal

pub returns-in_err-write_run-clause-written : goal.returns-in_err-write_run-clause-written
unfolding combo_form
returns-in_err-write_run-clause-written g c =
    at_err c.from_residual.ensures.0 (failed_piece _ (begins _ _) refl c.in_err-write_run.ensures.written)

pub returns-clause-written : goal.returns-clause-written
unfolding combo_form
returns-clause-written g c =
    last_call (after_piece (begins _ _) refl c.in_ok-write_run.ensures.written) c.write_count.ensures.written
