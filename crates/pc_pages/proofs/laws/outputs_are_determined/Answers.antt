-- Two outputs are of the same pages.
use Rattle.pc_pages.proofs.OneOutput.{one_decode_output, one_encode_output, one_show_output}
use Rattle.pc_pages.proofs.laws.outputs_are_determined.Goals as goal

pub returns : goal.returns
returns c = record { decode = one_decode_output; encode = one_encode_output; show = one_show_output }
