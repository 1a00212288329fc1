-- The problem has a meaning.
use Rattle.std.proofs.Common.{refl}
use Rattle.pc_selfrun.proofs.ColumnProblem.{column_fit}
use Rattle.pc_selfrun.proofs.column.column_problem.Goals as goal

pub returns-clause-problem : goal.returns-clause-problem
returns-clause-problem c = record {
  field = c.column_field.ensures;
  height = refl;
  queues = c.five_pieces.ensures;
  hold = refl;
  held = refl;
  drop = refl;
  rules = c.srs.ensures;
}

pub returns-clause-fit : goal.returns-clause-fit
returns-clause-fit c = column_fit c.args.column _ c.requires (returns-clause-problem c)
