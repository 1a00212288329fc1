-- The bits of one set that aren't in the other.
use Rattle.lane_board.proofs.CallerLemmas.{has_bit-and_not}
use Rattle.empty_cells.proofs.rows.rows_without.Goals as goal

pub returns : goal.returns
returns c = λ y. has_bit-and_not c.args.rows c.args.others y
