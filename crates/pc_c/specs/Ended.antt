-- How a run over slices ended, and what it left in them.
use Rattle.std.specs.Prelude.{◌≡◌, ℕ, List, [], take, Some}
use Rattle.pc_outside.specs.SliceSink.{SliceSinkState}
use Rattle.pc_faults.specs.declared.status.Status.{Status}
use Rattle.pc_faults.specs.declared.status.Status.TheVariants.{Done, Input, SourceFault, SinkFault, NoMemory}
use Rattle.pc_faults.specs.Codes.{status_code}
use Rattle.pc_faults.specs.FaultLine.{fault_line}
use Rattle.pc_source.specs.Task.{Task, first_fault}
use Rattle.pc_c.specs.Call.{ForFloods, WritesCut, WritesFront, WritesOutput}

-- a sink that has filled nothing of its slice
pub record IsFresh (sink : SliceSinkState) (slice : ℕ) (before : List ℕ) : Type 0 where
  pub same : sink.slice ≡ slice
  pub rest : sink.rest ≡ before
  pub empty : sink.bytes ≡ []
  pub unmissed : sink.missed ≡ []
  pub faults : sink.faults ≡ 0

-- what was written to `out`, which had so much room, by so many floods
abbrev pub LeavesOut : (task : Task) (bytes written : List ℕ) (room floods : ℕ) → Status → Type 0
LeavesOut task bytes written room floods Done = WritesOutput task bytes written floods
LeavesOut task bytes written room floods (Input fault) =
    (first_fault task bytes ≡ Some fault) × (written ≡ []) × (floods ≡ 0)
LeavesOut task bytes written room floods SourceFault = ⊥
LeavesOut task bytes written room floods SinkFault = WritesCut task bytes written room floods
LeavesOut task bytes written room floods NoMemory = WritesFront task bytes written floods

-- what was written to `err`, which had so much room
abbrev pub LeavesErr : (told : List ℕ) (room : ℕ) → Status → Type 0
LeavesErr told room (Input fault) = told ≡ take room (fault_line fault)
LeavesErr told room other = told ≡ []

-- the status of a call and its count of floods are those of a run that left this in the slices
pub record EndedBy (task : Task) (bytes written : List ℕ) (room count : ℕ) (told : List ℕ) (err_room code : ℕ)
    : Type 0 where
  pub status : Status
  pub is : code ≡ status_code status
  pub out : ForFloods count (λ floods. LeavesOut task bytes written room floods status)
  pub err : LeavesErr told err_room status
