-- The two sums do not leave a byte.
use Rattle.std.proofs.Common.{rules}
use Rattle.srs.specs.Cells.{moved}
use Rattle.srs.proofs.NumberLemmas.{near_within, sum_in_byte}
use Rattle.srs.proofs.shapes.cell_at.Goals as goal

pub returns : goal.returns
unfolding moved
returns c = search (rules, near_within, sum_in_byte)
