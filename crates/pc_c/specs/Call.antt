-- What a call wrote, by its status.
use Rattle.std.specs.Prelude.{◌≡◌, ℕ, ◌+◌, ◌-◌, ◌^◌, ◌<◌, ◌≤◌, min, List, [], ◌++◌, length, take, drop, true, if◌then◌else◌, Some, None, ◌⊎◌}
use Rattle.pc_faults.specs.declared.fault.Fault.{Fault}
use Rattle.pc_faults.specs.declared.status.Status.TheVariants.{Done, NoMemory, SinkFault}
use Rattle.pc_faults.specs.FaultLine.{fault_line}
use Rattle.pc_source.specs.Sink.{SinkChange, sink_change}
use Rattle.pc_source.specs.Task.{Task, first_fault, reads_source}
use Rattle.pc_source.specs.Work.{Works}
use Rattle.pc_app.specs.Tasks.{task_of}
use Rattle.pc_c.specs.Words.{SpellsNoWords}

-- done, a fault of the input, too little room, no memory, no words
abbrev pub IsStatus : ℕ → Type 0
IsStatus status = (status ≡ 0) ⊎ (status ≡ 2) ⊎ (status ≡ 4) ⊎ (status ≡ 5) ⊎ (status ≡ 6)

-- A status that is one of these. 6 says that the text is no words at all, and this is answered, unless memory is
-- wanting.
pub record IsStatusOf (Is : ℕ → Type 0) (text : List ℕ) (status : ℕ) : Type 0 where
  pub one : Is status
  pub no_words : status ≡ 6 → SpellsNoWords text
  pub unspelled : SpellsNoWords text → (status ≡ 5) ⊎ (status ≡ 6)

-- of the bytes of a buffer none changed but the first ones, so many
pub record ChangesFront (old new : List ℕ) (count : ℕ) : Type 0 where
  pub within : count ≤ length new
  pub rest : drop count new ≡ drop count old

-- the bytes that the command sees of the input
abbrev pub seen : Task → List ℕ → List ℕ
seen task input = if reads_source task then input else []

-- a sink that held nothing and holds these bytes, after so many writes that failed
abbrev pub holding : List ℕ → ℕ → SinkChange
holding bytes failed = sink_change true (Some []) (Some bytes) 0 failed

-- This holds for the number of floods, of which a u64 tells so much: the number, or the greatest u64 where it is
-- greater.
pub record ForFloods (told : ℕ) (Holds : ℕ → Type 0) : Type 0 where
  pub floods : ℕ
  pub counted : told ≡ min floods (2 ^ 64 - 1)
  pub holds : Holds floods

-- no fault stands, and what was written is the output of the task, which made so many floods
pub record WritesOutput (task : Task) (bytes written : List ℕ) (floods : ℕ) : Type 0 where
  pub none : first_fault task bytes ≡ None
  pub is_output : task.IsOutput bytes floods written
  pub work : task.IsWork bytes (holding written 0) Done floods

-- No fault stands, and the output is longer than the room: its first bytes were written, as many as there is room for.
-- The floods are those up to the byte that found none.
pub record WritesCut (task : Task) (bytes written : List ℕ) (room floods : ℕ) : Type 0 where
  pub none : first_fault task bytes ≡ None
  pub output : List ℕ
  pub is_output : task.IsOutput bytes floods output
  pub longer : room < length output
  pub front : written ≡ take room output
  pub failed : ℕ
  pub work : task.IsWork bytes (holding (take (room + 1) output) failed) SinkFault floods

-- the line of the first fault was written, or as many of its first bytes as there is room for
pub record TellsFault (task : Task) (bytes told : List ℕ) (room : ℕ) : Type 0 where
  pub fault : Fault
  pub first : first_fault task bytes ≡ Some fault
  pub line : told ≡ take room (fault_line fault)

-- memory was wanted: the first bytes of the output were written, and none where a fault stands or where the task takes
-- its memory before it writes
pub record WritesFront (task : Task) (bytes written : List ℕ) (floods : ℕ) : Type 0 where
  pub front : (output : List ℕ) → task.IsOutput bytes floods output → (rest : List ℕ) × (output ≡ written ++ rest)
  pub first : task.memory_first ≡ true → written ≡ []
  pub faulty : (fault : Fault) → first_fault task bytes ≡ Some fault → written ≡ []
  pub work : Works task (first_fault task bytes) bytes (holding written 0) floods NoMemory

-- What the status of a call says of these words and this input. There was so much room for what was written and for the
-- line that was told, and the call tells so many floods.
pub record EndsRun (words : List (List ℕ)) (input written : List ℕ) (room : ℕ) (told : List ℕ)
    (err_room floods status : ℕ) : Type 0 where
  pub done : let task = task_of words in status ≡ 0 → ForFloods floods (WritesOutput task (seen task input) written)
  pub faulty : let task = task_of words in status ≡ 2 → TellsFault task (seen task input) told err_room
  pub cut : let task = task_of words in status ≡ 4 → ForFloods floods (WritesCut task (seen task input) written room)
  pub no_memory : let task = task_of words in status ≡ 5 → ForFloods floods (WritesFront task (seen task input) written)
