-- The numbers of a solution may be given.
use Rattle.pc_solutions.proofs.Given.{solution_numbers}
use Rattle.pc_solutions.proofs.laws.written_solutions_may_be_given.Goals as goal

pub returns : goal.returns
returns c = solution_numbers
