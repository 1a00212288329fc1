-- How a run ends where the lines of the source are refused.
use Rattle.pc_outside.specs.declared.answers.Refused.{Refused}
use Rattle.pc_outside.specs.declared.answers.Refused.TheVariants as refused
use Rattle.pc_faults.specs.declared.cover_fault.CoverFault.{CoverFault}
use Rattle.pc_faults.specs.declared.fault.Fault.TheVariants as faults
use Rattle.pc_faults.specs.declared.status.Status.{Status}
use Rattle.pc_faults.specs.declared.status.Status.TheVariants.{Input, NoMemory}

abbrev pub status_of_lines : Refused CoverFault → Status
status_of_lines (refused.Fault fault) = Input (faults.Cover fault)
status_of_lines refused.NoMemory = NoMemory
