-- What a command does, by the bytes that it sees of the source.
use Rattle.std.specs.Prelude.{◌≡◌, ℕ, List, [], ◌∷◌, length, Bool, true, false, nat_lt, if◌then◌else◌, Option, Some, None}
use Rattle.std.specs.Option.{ForSome}
use Rattle.pc_faults.specs.declared.fault.Fault.{Fault}
use Rattle.pc_faults.specs.declared.fault.Fault.TheVariants.{SourceTooLong}
use Rattle.pc_faults.specs.declared.status.Status.{Status}
use Rattle.pc_faults.specs.FirstFault.{first_of_these}
use Rattle.pc_source.specs.Sink.{SinkChange}

-- what a run needs, besides its words, before its faults are known
pub data Needs : Type 0 where
  nothing : Needs
  memory : Needs
  source_bytes : Needs

-- A command with its settings. Its first fault, what it writes and the floods that it makes are those where it sees
-- these bytes of the source.
pub record Task : Type 1 where
  pub needs : Needs
  -- where it wants memory, it has written nothing
  pub memory_first : Bool
  pub fault : List ℕ → Option Fault
  -- what it writes, where it made so many floods
  pub IsOutput : (bytes : List ℕ) (floods : ℕ) (output : List ℕ) → Type 0
  -- how many floods it may have made, where no fault stands, it left the sink so, and it ended with this status: Done,
  -- a failed write, or want of memory
  pub IsWork : (bytes : List ℕ) (sink : SinkChange) (status : Status) (floods : ℕ) → Type 0

abbrev pub is_source : Needs → Bool
is_source source_bytes = true
is_source other = false

-- whether the source is read
abbrev pub reads_source : Task → Bool
reads_source task = is_source task.needs

-- what a run sees of the source: the bytes that it has left where it is read, and none where it is not
abbrev pub Sees : Bool → Option (List ℕ) → List ℕ → Type 0
Sees true left bytes = left ≡ Some bytes
Sees false left bytes = bytes ≡ []

-- This holds for the bytes that the task sees, where the source tells them.
abbrev pub ForBytes : Task → Option (List ℕ) → (List ℕ → Type 0) → Type 0
ForBytes task left Holds = (bytes : List ℕ) → Sees (reads_source task) left bytes → Holds bytes

-- the bytes that a run saw: those that the source tells where it is read, some bytes where it does not tell them, and
-- none where it is not read
abbrev pub HasBytes : Bool → Option (List ℕ) → List ℕ → Type 0
HasBytes true left bytes = ForSome left (λ all. bytes ≡ all)
HasBytes false left bytes = bytes ≡ []

-- This holds for some bytes that the task may have seen.
pub record ForSomeBytes (task : Task) (left : Option (List ℕ)) (Holds : List ℕ → Type 0) : Type 0 where
  pub bytes : List ℕ
  pub seen : HasBytes (reads_source task) left bytes
  pub holds : Holds bytes

-- the most bytes that are read from the source
abbrev pub most_bytes : ℕ
most_bytes = 4194304

abbrev pub length_fault : ℕ → Option Fault
length_fault count = if nat_lt most_bytes count then Some SourceTooLong else None

abbrev pub source_fault : Needs → List ℕ → Option Fault
source_fault source_bytes bytes = length_fault (length bytes)
source_fault other bytes = None

-- the first fault of a task: that the source which it reads is too long, and then its own
unfoldable pub first_fault : Task → List ℕ → Option Fault
first_fault task bytes = first_of_these (source_fault task.needs bytes ∷ task.fault bytes ∷ [])
