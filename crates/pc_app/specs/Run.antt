-- How a run ended: what its status says of the first fault, the output, the source, the sinks and the counter of
-- floods.
use Rattle.std.specs.Prelude.{◌≡◌, ◌≢◌, ◌⊎◌, ℕ, ◌-◌, ◌≤◌, Bool, true, List, Option, None, Some, Err}
use Rattle.kick_file.specs.declared.fault.KickFault.{KickFault}
use Rattle.pc_outside.specs.Counts.{Rose}
use Rattle.pc_outside.specs.Writes.{Grows, GrowsByFront}
use Rattle.pc_faults.specs.declared.fault.Fault.{Fault}
use Rattle.pc_faults.specs.declared.fault.Fault.TheVariants as faults
use Rattle.pc_faults.specs.declared.status.Status.{Status}
use Rattle.pc_faults.specs.declared.status.Status.TheVariants.{Done, Input, SourceFault, SinkFault, NoMemory}
use Rattle.pc_faults.specs.declared.words_fault.WordsFault.{WordsFault}
use Rattle.pc_faults.specs.FaultLine.{fault_line}
use Rattle.pc_source.specs.Statuses.{EndsBy, FailedAfterFront, Wrote}
use Rattle.pc_source.specs.Sink.{SinkChange}
use Rattle.pc_source.specs.Source.{LeavesSource}
use Rattle.pc_source.specs.Task.{ForBytes, ForSomeBytes, first_fault, reads_source}
use Rattle.pc_source.specs.Work.{Works}
use Rattle.pc_words.specs.Words.{asked_in, request_in}
use Rattle.pc_app.specs.Tasks.{task_of}

-- a source before and after a run: whether it counts failed reads alone, the bytes that it had and has left, where it
-- tells them, and its counts of faults
pub record SourceChange : Type 0 where
  pub alone : Bool
  pub left : Option (List ℕ)
  pub leaves : Option (List ℕ)
  pub before : ℕ
  pub now : ℕ

abbrev pub source_change : Bool → Option (List ℕ) → Option (List ℕ) → ℕ → ℕ → SourceChange
source_change alone left leaves before now =
    record { alone = alone; left = left; leaves = leaves; before = before; now = now }

-- A run of these words ended with this status. It changed the source and the sinks so, where the `Kept` say that they
-- were not touched, and the counter of floods stood at these numbers before and after it.
pub record RunEnds (words : List (List ℕ)) (origin : SourceChange) (SourceKept : Type 0) (out : SinkChange)
    (OutKept : Type 0) (err : SinkChange) (ErrKept : Type 0) (before now : ℕ) (status : Status) : Type 0 where
  -- at Done an output was appended, and no fault stands
  pub done : let task = task_of words in status ≡ Done → ForBytes task origin.left
      (λ bytes. Wrote (task.IsOutput bytes (now - before)) out)
  pub no_fault : let task = task_of words in status ≡ Done → ForBytes task origin.left
      (λ bytes. first_fault task bytes ≡ None)
  -- on every status a front of each output was appended
  pub front : let task = task_of words in ForBytes task origin.left
      (λ bytes. (output : List ℕ) → task.IsOutput bytes (now - before) output
      → GrowsByFront out.held out.holds output)
  -- a fault that is answered is the first one
  pub input : let task = task_of words in (fault : Fault) → status ≡ Input fault → ForBytes task origin.left
      (λ bytes. first_fault task bytes ≡ Some fault)
  pub words_fault : (fault : WordsFault) → status ≡ Input (faults.Words fault) → request_in words ≡ Err fault
  pub kicks_fault : (fault : KickFault) → status ≡ Input (faults.Kicks fault)
      → asked_in (request_in words) ≡ Err (faults.Kicks fault)
  -- where a fault stands, it is answered, or what is needed to know it can't be had; nothing is written, and no flood
  -- is made
  pub fault : let task = task_of words in ForBytes task origin.left
      (λ bytes. (fault : Fault) → first_fault task bytes ≡ Some fault → EndsBy task.needs fault status)
  pub quiet : let task = task_of words in ForBytes task origin.left
      (λ bytes. (fault : Fault) → first_fault task bytes ≡ Some fault → OutKept × (now ≡ before))
  pub input_quiet : (fault : Fault) → status ≡ Input fault → OutKept × (now ≡ before)
  -- a failed read or write is answered only where the count of faults rose, and want of memory only where nothing was
  -- written if all memory is taken first
  pub source_fault : status ≡ SourceFault → Rose origin.before origin.now × OutKept × (now ≡ before)
  pub sink_fault : let task = task_of words in status ≡ SinkFault → ForBytes task origin.left
      (λ bytes. FailedAfterFront (first_fault task bytes) (task.IsOutput bytes (now - before)) out)
  pub sink_rose : status ≡ SinkFault → Rose out.before out.now
  pub no_memory : (task_of words).memory_first ≡ true → status ≡ NoMemory → OutKept
  -- where no fault stands and no count rose, it is Done, or memory was wanting
  pub complete : let task = task_of words in ForBytes task origin.left
      (λ bytes. first_fault task bytes ≡ None → (Rose origin.before origin.now → ⊥)
      → (Rose out.before out.now → ⊥) → (status ≡ Done) ⊎ (status ≡ NoMemory))
  -- what is left of the source, and which counts stayed
  pub source : LeavesSource (reads_source (task_of words)) origin.left origin.leaves SourceKept status
  pub source_kept : origin.alone ≡ true → status ≢ SourceFault → origin.now ≡ origin.before
  pub sink_kept : out.alone ≡ true → status ≢ SinkFault → out.now ≡ out.before
  -- the floods that were added
  pub work : let task = task_of words in ForSomeBytes task origin.left
      (λ bytes. Works task (first_fault task bytes) bytes out (now - before) status)
  pub rose : before ≤ now
  -- the line of a fault goes to `err`, and nothing else does
  pub whole_line : (fault : Fault) → status ≡ Input fault → (Rose err.before err.now → ⊥)
      → Grows err.held err.holds (fault_line fault)
  pub fault_line : (fault : Fault) → status ≡ Input fault → GrowsByFront err.held err.holds (fault_line fault)
  pub no_line : ((fault : Fault) → status ≢ Input fault) → ErrKept
