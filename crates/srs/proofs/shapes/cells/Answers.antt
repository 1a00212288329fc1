-- The offset of the fourth cell is near, as those of all cells are.
use Rattle.std.proofs.Common.{arith}
use Rattle.srs.specs.Cells.{is_near}
use Rattle.srs.proofs.BooleanLemmas.{list_all_each}
use Rattle.srs.proofs.shapes.cells.Goals as goal

pub cell_at-requires-4-clause-near : goal.cell_at-requires-4-clause-near
cell_at-requires-4-clause-near c = list_all_each is_near c.shape.result 3 _ c.shape.ensures.near (omega arith)
