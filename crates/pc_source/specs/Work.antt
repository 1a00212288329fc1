-- What a run adds to the counter of floods.
use Rattle.std.specs.Prelude.{◌≡◌, ℕ, List, Option, None, ◌⊎◌}
use Rattle.pc_faults.specs.declared.fault.Fault.{Fault}
use Rattle.pc_faults.specs.declared.status.Status.{Status}
use Rattle.pc_faults.specs.declared.status.Status.TheVariants.{Done, Input, SourceFault, SinkFault, NoMemory}
use Rattle.pc_source.specs.Sink.{SinkChange}
use Rattle.pc_source.specs.Task.{Task}

-- the work of a command that makes no floods
abbrev pub no_floods : List ℕ → SinkChange → Status → ℕ → Type 0
no_floods bytes sink status floods = floods ≡ 0

-- the work of a command that may make any floods
abbrev pub any_floods : List ℕ → SinkChange → Status → ℕ → Type 0
any_floods bytes sink status floods = Unit {0}

-- the work of a command that makes floods only once it has all its memory
abbrev pub floods_after_memory : List ℕ → SinkChange → Status → ℕ → Type 0
floods_after_memory bytes sink NoMemory floods = floods ≡ 0
floods_after_memory bytes sink other floods = Unit {0}

-- What is added by a status, where the task sees these bytes and this is the first fault: nothing where the input has
-- a fault or could not be read, and else what the task says. Where memory is wanted, it may be nothing, and it is
-- nothing where a fault stands.
abbrev pub Works : Task → Option Fault → List ℕ → SinkChange → ℕ → Status → Type 0
Works task fault bytes sink floods Done = task.IsWork bytes sink Done floods
Works task fault bytes sink floods (Input found) = floods ≡ 0
Works task fault bytes sink floods SourceFault = floods ≡ 0
Works task fault bytes sink floods SinkFault = task.IsWork bytes sink SinkFault floods
Works task fault bytes sink floods NoMemory = (floods ≡ 0) ⊎ ((fault ≡ None) × task.IsWork bytes sink NoMemory floods)
