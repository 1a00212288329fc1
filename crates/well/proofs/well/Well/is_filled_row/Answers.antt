-- A row with no cell has the number 0.
use Rattle.std.proofs.Common.{arith}
use Rattle.well.specs.Well.{filled}
use Rattle.well.proofs.WellFields.{filled-within}
use Rattle.well.proofs.CountLemmas.{row_is_filled}
use Rattle.well.proofs.well.Well.is_filled_row.Goals as goal

pub returns : goal.returns
unfolding filled
returns c = row_is_filled (filled c.args.self.now) c.args.y c.row.result (omega arith) (λ x has. (filled-within c.args.self.now x c.args.y has).0) c.row.ensures
