-- The program's fault for one of a problem.
use Rattle.std.specs.Prelude.{Option, Some, None}
use Rattle.problem.specs.declared.fault.ProblemFault.{ProblemFault}
use Rattle.problem.specs.declared.fault.ProblemFault.TheVariants.{BadHeight, FieldTooHigh, FullRow, TooFewPieces}
use Rattle.pc_faults.specs.declared.fault.Fault.{Fault}
use Rattle.pc_faults.specs.declared.fault.Fault.TheVariants as faults

-- that of a height is found among the words, before there is a field
abbrev pub told : ProblemFault → Option Fault
told (BadHeight height) = None
told (FieldTooHigh row) = Some (faults.FieldTooHigh row)
told (FullRow row) = Some (faults.FullRow row)
told (TooFewPieces have need) = Some (faults.TooFewPieces have need)
