-- What a report writes for a solution spells it.
use Rattle.pc_path.proofs.WrittenText.{line_spelled}
use Rattle.pc_path.proofs.laws.written_solutions_may_be_given.Goals as goal

pub returns : goal.returns
returns c = line_spelled
