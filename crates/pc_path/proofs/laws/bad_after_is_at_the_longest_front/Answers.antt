-- The fault of a value is that of its reading.
use Rattle.pc_path.proofs.AfterFaults.{no_fault_where_spelled, bad_after_where_bad}
use Rattle.pc_path.proofs.laws.bad_after_is_at_the_longest_front.Goals as goal

pub returns : goal.returns
returns c = record { none = no_fault_where_spelled; place = bad_after_where_bad }
