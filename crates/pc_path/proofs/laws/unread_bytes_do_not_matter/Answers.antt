-- The field is not that of the source.
use Rattle.pc_path.proofs.PathAnswers.{path_fault_unread, path_output_unread}
use Rattle.pc_path.proofs.laws.unread_bytes_do_not_matter.Goals as goal

pub returns : goal.returns
returns c = record { fault = path_fault_unread; output = path_output_unread }
