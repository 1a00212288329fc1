-- The refusal of a call that makes the problem.
use Rattle.pc_outside.specs.declared.answers.Refused.{Refused}
use Rattle.pc_outside.specs.declared.answers.Refused.TheVariants as refused
use Rattle.pc_faults.specs.declared.fault.Fault.{Fault}
use Rattle.pc_good_queues.specs.declared.answer.NoBits.{NoBits}
use Rattle.pc_good_queues.specs.declared.answer.NoBits.TheVariants as none

abbrev pub refusal : Refused Fault → NoBits
refusal (refused.Fault fault) = none.Fault fault
refusal refused.NoMemory = none.NoMemory
