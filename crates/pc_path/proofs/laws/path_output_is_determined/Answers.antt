-- Two outputs are of the same field and the same list.
use Rattle.pc_path.proofs.OneOutput.{one_path_output}
use Rattle.pc_path.proofs.laws.path_output_is_determined.Goals as goal

pub returns : goal.returns
returns c = λ request bytes one other floods others same. one_path_output request bytes floods others same one other
