-- The exit status of the program, and how a run ends where its source is not read, a call is refused, or its
-- last writes fail.
use Rattle.std.specs.Prelude.{ℕ, Result, Ok, Err}
use Rattle.pc_outside.specs.declared.reading.ReadError.{ReadError}
use Rattle.pc_outside.specs.declared.reading.ReadError.TheVariants as read
use Rattle.pc_outside.specs.declared.answers.Refused.{Refused}
use Rattle.pc_outside.specs.declared.answers.Refused.TheVariants as refused
use Rattle.line_writing.specs.declared.write_fault.WriteFault.{WriteFault}
use Rattle.line_writing.specs.declared.write_fault.WriteFault.TheVariants as line
use Rattle.pc_faults.specs.declared.fault.Fault.{Fault}
use Rattle.pc_faults.specs.declared.fault.Fault.TheVariants.{SourceTooLong}
use Rattle.pc_faults.specs.declared.status.Status.{Status}
use Rattle.pc_faults.specs.declared.status.Status.TheVariants.{Done, Input, SourceFault, SinkFault, NoMemory}

abbrev pub status_code : Status → ℕ
status_code Done = 0
status_code (Input fault) = 2
status_code SourceFault = 3
status_code SinkFault = 4
status_code NoMemory = 5

abbrev pub read_status : ReadError → Status
read_status read.TooLong = Input SourceTooLong
read_status read.Failed = SourceFault
read_status read.NoMemory = NoMemory

abbrev pub refused_status : Refused Fault → Status
refused_status (refused.Fault fault) = Input fault
refused_status refused.NoMemory = NoMemory

abbrev pub written_status : {T E : Type 0} → Result T E → Status
written_status (Ok all) = Done
written_status (Err failed) = SinkFault

-- how a run ends by what its last line answered
abbrev pub line_status : {T : Type 0} → Result T WriteFault → Status
line_status (Ok written) = Done
line_status (Err line.Failed) = SinkFault
line_status (Err line.NoMemory) = NoMemory
