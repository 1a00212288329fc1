-- The cells are raised with the number of rows.
use Rattle.std.proofs.Common.{ap, ◌∙◌, arith}
use Rattle.well.proofs.RowsLemmas.{raised-above}
use Rattle.well.proofs.reader.RowsReader.next_row.Goals as goal

pub invariant_of-result-clause-low : goal.invariant_of-result-clause-low
invariant_of-result-clause-low c = λ x y above. ap (λ F. F x y) c.raised.ensures ∙ raised-above _ c.args.self.now.row x y c.args.self.now.low (omega arith)
