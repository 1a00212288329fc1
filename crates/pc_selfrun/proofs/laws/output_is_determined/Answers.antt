-- Two outputs are of the same pages, and of the same solutions.
use Rattle.pc_selfrun.proofs.OneOutput.{one_selfrun_output}
use Rattle.pc_selfrun.proofs.laws.output_is_determined.Goals as goal

pub returns : goal.returns
returns c = one_selfrun_output
