-- The line, and then the pictures.
use Rattle.std.proofs.Common.{subst}
use Rattle.well.specs.Well.{filled}
use Rattle.pc_outside.specs.Writes.{WritesAll}
use Rattle.pc_outside.specs.WriteLaws.{two_calls, first_failed}
use Rattle.report.specs.Grid.{grid_form, grid_pictures}
use Rattle.report.proofs.grid.write_grid.Goals as goal

pub returns-in_err-write_line-clause-written : goal.returns-in_err-write_line-clause-written
unfolding grid_form
returns-in_err-write_line-clause-written g c = first_failed _ c.in_err-write_line.ensures.written c.from_residual.ensures.0

pub returns-clause-written : goal.returns-clause-written
unfolding grid_form
returns-clause-written g c =
    two_calls c.in_ok-write_line.ensures.written
    (subst (λ s. WritesAll (g.O.Sink.written c.write_line.new.out) (g.O.Sink.written c.write_pictures.new.out) c.write_pictures.result (grid_pictures (filled c.args.problem.now.well) c.args.problem.now.height s))
    c.as_slice.ensures.value c.write_pictures.ensures.written)
