-- What a status says, before a fault is reported.
use Rattle.std.specs.Prelude.{◌≡◌, ℕ, ◌-◌, List, true, Option, Some}
use Rattle.pc_outside.specs.Counts.{Rose}
use Rattle.pc_faults.specs.declared.fault.Fault.{Fault}
use Rattle.pc_faults.specs.declared.status.Status.{Status}
use Rattle.pc_faults.specs.declared.status.Status.TheVariants.{Done, Input, SourceFault, SinkFault, NoMemory}
use Rattle.pc_source.specs.Statuses.{DoneAfter, FailedAfterFront, WantsMemory}
use Rattle.pc_source.specs.Sink.{SinkChange}
use Rattle.pc_source.specs.Task.{ForBytes, ForSomeBytes, Task, first_fault, reads_source}
use Rattle.pc_source.specs.Work.{Works}
use Rattle.pc_app.specs.Tasks.{task_of}

-- a status with its cause, of a task that sees these bytes and made so many floods
abbrev pub Ran : Task → List ℕ → SinkChange → Type 0 → ℕ → Status → Type 0
Ran task bytes sink Kept floods Done = DoneAfter (first_fault task bytes) (task.IsOutput bytes floods) sink
Ran task bytes sink Kept floods (Input found) = (first_fault task bytes ≡ Some found) × Kept
Ran task bytes sink Kept floods SourceFault = (reads_source task ≡ true) × Kept
Ran task bytes sink Kept floods SinkFault = FailedAfterFront (first_fault task bytes) (task.IsOutput bytes floods) sink
Ran task bytes sink Kept floods NoMemory =
    WantsMemory task (first_fault task bytes) (task.IsOutput bytes floods) sink Kept

-- what holds of the sink whatever the source tells
abbrev pub LeavesSink : Task → SinkChange → Type 0 → Status → Type 0
LeavesSink task sink Kept Done = sink.alone ≡ true → sink.now ≡ sink.before
LeavesSink task sink Kept (Input found) = Kept
LeavesSink task sink Kept SourceFault = Kept
LeavesSink task sink Kept SinkFault = Rose sink.before sink.now
LeavesSink task sink Kept NoMemory = (task.memory_first ≡ true → Kept) × (sink.alone ≡ true → sink.now ≡ sink.before)

-- A run of these words ended with this status, where the source told these bytes. It changed the sink so, where `Kept`
-- says that it was not touched, and the counter of floods stood at these numbers before and after it.
pub record HasRun (words : List (List ℕ)) (left : Option (List ℕ)) (sink : SinkChange) (Kept : Type 0)
    (before now : ℕ) (status : Status) : Type 0 where
  pub ran : let task = task_of words in ForBytes task left (λ bytes. Ran task bytes sink Kept (now - before) status)
  pub leaves : LeavesSink (task_of words) sink Kept status
  pub work : let task = task_of words in ForSomeBytes task left
      (λ bytes. Works task (first_fault task bytes) bytes sink (now - before) status)
  pub fault_idle : let task = task_of words in ForBytes task left
      (λ bytes. (fault : Fault) → first_fault task bytes ≡ Some fault → now ≡ before)
