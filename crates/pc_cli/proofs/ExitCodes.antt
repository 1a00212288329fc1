-- Each status has an exit code.
use Rattle.std.proofs.Common.{refl, inl, inr}
use Rattle.pc_faults.specs.declared.status.Status.{Status}
use Rattle.pc_faults.specs.declared.status.Status.TheVariants.{Done, Input, SourceFault, SinkFault, NoMemory}
use Rattle.pc_faults.specs.Codes.{status_code}
use Rattle.pc_cli.specs.Edge.{IsExitStatus}

pub one_of_five : (status : Status) → IsExitStatus (status_code status)
one_of_five Done = inl refl
one_of_five (Input fault) = inr (inl refl)
one_of_five SourceFault = inr (inr (inl refl))
one_of_five SinkFault = inr (inr (inr (inl refl)))
one_of_five NoMemory = inr (inr (inr (inr refl)))
