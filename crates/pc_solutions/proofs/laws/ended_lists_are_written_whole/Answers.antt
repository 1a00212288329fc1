-- All of a list that has ended was written.
use Rattle.pc_solutions.proofs.WholeLists.{written_whole}
use Rattle.pc_solutions.proofs.laws.ended_lists_are_written_whole.Goals as goal

pub returns : goal.returns
returns c = written_whole
