-- What each status says of the fault, the output and the sink.
use Rattle.std.specs.Prelude.{◌≡◌, ℕ, List, true, Option, Some, None, ◌⊎◌}
use Rattle.pc_outside.specs.Counts.{Rose}
use Rattle.pc_outside.specs.Writes.{Grows, GrowsByFront}
use Rattle.pc_faults.specs.declared.fault.Fault.{Fault}
use Rattle.pc_faults.specs.declared.status.Status.{Status}
use Rattle.pc_faults.specs.declared.status.Status.TheVariants.{Done, Input, SourceFault, SinkFault, NoMemory}
use Rattle.pc_source.specs.Sink.{SinkChange}
use Rattle.pc_source.specs.Task.{Task, Needs, nothing, memory, source_bytes}

-- an output was appended
pub record Wrote (Outputs : List ℕ → Type 0) (sink : SinkChange) : Type 0 where
  pub output : List ℕ
  pub is_output : Outputs output
  pub grown : Grows sink.held sink.holds output

-- a front of an output was appended
pub record WroteFront (Outputs : List ℕ → Type 0) (sink : SinkChange) : Type 0 where
  pub output : List ℕ
  pub is_output : Outputs output
  pub grown : GrowsByFront sink.held sink.holds output

-- all is well, an output was appended, and, of a sink that counts failed writes alone, no write failed
pub record DoneAfter (fault : Option Fault) (Outputs : List ℕ → Type 0) (sink : SinkChange) : Type 0 where
  pub none : fault ≡ None
  pub wrote : Wrote Outputs sink
  pub kept : sink.alone ≡ true → sink.now ≡ sink.before

-- no fault stands, a front of an output was appended, and the count of faults rose
pub record FailedAfterFront (fault : Option Fault) (Outputs : List ℕ → Type 0) (sink : SinkChange) : Type 0 where
  pub none : fault ≡ None
  pub front : WroteFront Outputs sink
  pub rose : Rose sink.before sink.now

-- no fault stands, a front of an output was appended, and, of a sink that counts failed writes alone, no write failed
pub record EndedAfterFront (fault : Option Fault) (Outputs : List ℕ → Type 0) (sink : SinkChange) : Type 0 where
  pub none : fault ≡ None
  pub front : WroteFront Outputs sink
  pub kept : sink.alone ≡ true → sink.now ≡ sink.before

-- Memory was wanted, where `Kept` says that nothing was written. It is wanted after the first byte only by a task that
-- does not take all of it before, and before a fault only by a task that needs it to know its faults.
pub record WantsMemory (task : Task) (fault : Option Fault) (Outputs : List ℕ → Type 0) (sink : SinkChange)
    (Kept : Type 0) : Type 0 where
  pub known : task.needs ≡ nothing → fault ≡ None
  pub first : task.memory_first ≡ true → Kept
  pub ended : Kept ⊎ EndedAfterFront fault Outputs sink

-- a status with its cause, of a task that sees these bytes and made so many floods, where `Kept` says that nothing was
-- written
abbrev pub IsAnswered : Task → List ℕ → SinkChange → Type 0 → ℕ → Status → Type 0
IsAnswered task bytes sink Kept floods Done = DoneAfter (task.fault bytes) (task.IsOutput bytes floods) sink
IsAnswered task bytes sink Kept floods (Input found) = (task.fault bytes ≡ Some found) × Kept
IsAnswered task bytes sink Kept floods SourceFault = ⊥
IsAnswered task bytes sink Kept floods SinkFault = FailedAfterFront (task.fault bytes) (task.IsOutput bytes floods) sink
IsAnswered task bytes sink Kept floods NoMemory =
    WantsMemory task (task.fault bytes) (task.IsOutput bytes floods) sink Kept

-- How a run ends where a fault stands: by this fault, unless what is needed to know it can't be had: memory, or a read.
abbrev pub EndsBy : Needs → Fault → Status → Type 0
EndsBy nothing fault status = status ≡ Input fault
EndsBy memory fault status = (status ≡ Input fault) ⊎ (status ≡ NoMemory)
EndsBy source_bytes fault status = (status ≡ Input fault) ⊎ (status ≡ SourceFault) ⊎ (status ≡ NoMemory)
