-- The byte at the row.
use Rattle.tiled_pieces.proofs.RowOrderLemmas.{byte_of}
use Rattle.tiled_pieces.proofs.row_order.RowOrder.after.Goals as goal

pub returns : goal.returns
returns c = λ r low. byte_of c.args.self.before c.args.row r low
