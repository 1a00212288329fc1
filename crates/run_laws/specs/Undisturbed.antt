-- How a run ends where no read and no write failed and memory was there, and that two runs ended alike.
use Rattle.std.specs.Prelude.{◌≡◌, ℕ, Bool, List, [], ◌++◌, Some, None}
use Rattle.pc_outside.specs.Writes.{Grows}
use Rattle.pc_faults.specs.declared.status.Status.{Status}
use Rattle.pc_faults.specs.declared.status.Status.TheVariants.{Done, Input}
use Rattle.pc_source.specs.Statuses.{Wrote}
use Rattle.pc_source.specs.Sink.{SinkChange}
use Rattle.pc_source.specs.Task.{Task, first_fault}
use Rattle.pc_path.specs.Output.{stats_form}

-- a task that sees these bytes and made so many floods is done, or is refused by its first fault and has written
-- nothing
abbrev pub EndsUndisturbed : Task → List ℕ → ℕ → SinkChange → Status → Type 0
EndsUndisturbed task bytes floods sink Done = (first_fault task bytes ≡ None) × Wrote (task.IsOutput bytes floods) sink
EndsUndisturbed task bytes floods sink (Input fault) = (first_fault task bytes ≡ Some fault) × (sink.holds ≡ sink.held)
EndsUndisturbed task bytes floods sink other = ⊥

-- where the number of floods is written, the line of it that stands at the end of what a run wrote that is done
abbrev pub floods_line : Bool → ℕ → Status → List ℕ
floods_line tells floods Done = stats_form tells floods
floods_line tells floods other = []

-- Two runs that made so many floods end by the same status, after the same bytes, but that each of them writes the
-- number of its own floods where it is written at all.
pub record EndAlike (tells : Bool) (floods others : ℕ) (one other : Status) (sink sinks : SinkChange) : Type 0 where
  pub status : one ≡ other
  pub output : List ℕ
  pub written : Grows sink.held sink.holds (output ++ floods_line tells floods one)
  pub also : Grows sinks.held sinks.holds (output ++ floods_line tells others other)
