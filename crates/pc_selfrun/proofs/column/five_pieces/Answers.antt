-- The text of the pattern has no fault.
use Rattle.pc_selfrun.proofs.ColumnFacts.{pattern_spelled}
use Rattle.pc_selfrun.proofs.column.five_pieces.Goals as goal

pub unreachable-requires : goal.unreachable-requires
unreachable-requires c = pattern_spelled _ c.in-Err.ensures.fault
