-- Byte by byte.
use Rattle.well.proofs.FirstFault.{fault_explained, explained_fault}
use Rattle.well.proofs.laws.texts_are_refused_by_their_first_fault.Goals as goal

pub returns : goal.returns
returns c = λ text fault. (fault_explained text fault, explained_fault text fault)
