-- The bits of ten columns, taken together by pairs.
use Rattle.empty_cells.proofs.FilledRows.{rows_bit}
use Rattle.empty_cells.proofs.rows.rows_of.Goals as goal

pub returns : goal.returns
returns c = λ y low. rows_bit c.args.cells y low
