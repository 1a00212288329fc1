-- The rows, and then the garbage row.
use Rattle.pc_outside.specs.WriteLaws.{two_calls, first_failed}
use Rattle.page_show.proofs.page.write_rows.Goals as goal

pub returns-in_err-write_shown-clause-written : goal.returns-in_err-write_shown-clause-written
returns-in_err-write_shown-clause-written g c = first_failed _ c.in_err-write_shown.ensures.written c.from_residual.ensures.0

pub returns-clause-written : goal.returns-clause-written
returns-clause-written g c = two_calls c.in_ok-write_shown.ensures.written c.write_row.ensures.written
