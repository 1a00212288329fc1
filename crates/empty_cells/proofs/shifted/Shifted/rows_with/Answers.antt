-- The span lies in column 0 of the set.
use Rattle.std.proofs.Common.{◌∙◌}
use Rattle.empty_cells.specs.Empties.{empty_cells}
use Rattle.empty_cells.proofs.ShiftedLemmas.{span_there}
use Rattle.empty_cells.proofs.shifted.Shifted.rows_with.Goals as goal

pub returns : goal.returns
returns c = λ y low. c.rows_with.ensures y low ∙ span_there c.args.self.now.x (empty_cells c.args.self.now.cells) c.args.span y
