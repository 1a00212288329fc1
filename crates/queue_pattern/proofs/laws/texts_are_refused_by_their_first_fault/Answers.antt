-- What is read is what stands, and the other way round.
use Rattle.queue_pattern.proofs.FaultLaws.{fault-from_refused, refused-from_fault}
use Rattle.queue_pattern.proofs.laws.texts_are_refused_by_their_first_fault.Goals as goal

pub returns : goal.returns
returns c = λ text fault. (fault-from_refused text fault, refused-from_fault text fault)
