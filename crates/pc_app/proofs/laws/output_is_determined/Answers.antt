-- Two outputs of the same words are the same.
use Rattle.pc_app.proofs.Commands.{one_output}
use Rattle.pc_app.proofs.laws.output_is_determined.Goals as goal

pub returns : goal.returns
returns c = λ words bytes one other floods others same. one_output words bytes floods others same one other
