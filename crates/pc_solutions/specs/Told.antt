-- The refusal of a call that makes the listing.
use Rattle.pc_outside.specs.declared.answers.Refused.{Refused}
use Rattle.pc_outside.specs.declared.answers.Refused.TheVariants as refused
use Rattle.pc_faults.specs.declared.fault.Fault.{Fault}
use Rattle.pc_solutions.specs.declared.solutions.Refusal.{Refusal}
use Rattle.pc_solutions.specs.declared.solutions.Refusal.TheVariants as refusals

abbrev pub refusal : Refused Fault → Refusal
refusal (refused.Fault fault) = refusals.Fault fault
refusal refused.NoMemory = refusals.NoMemory
