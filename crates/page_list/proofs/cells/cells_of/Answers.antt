-- The garbage row and then the rows are written over zeros.
use Rattle.std.proofs.Common.{rules}
use Rattle.page_list.proofs.PutLemmas.{both_written}
use Rattle.page_list.proofs.cells.cells_of.Goals as goal

pub returns : goal.returns
returns c = search (rules, (both_written 230 240 c.args.rows.now c.args.garbage.now c.put.new.cells c.put-2.new.cells c.requires))
