-- How a command ended.
use Rattle.std.specs.Prelude.{ℕ, ◌-◌, ◌≤◌, List}
use Rattle.pc_faults.specs.declared.status.Status.{Status}
use Rattle.pc_source.specs.Statuses.{IsAnswered}
use Rattle.pc_source.specs.Sink.{SinkChange}
use Rattle.pc_source.specs.Task.{Task}
use Rattle.pc_source.specs.Work.{Works}

-- A command that saw these bytes ended with this status. It changed the sink so, where `Kept` says that nothing was
-- written, and the counter of floods stood at these numbers before and after it.
pub record CommandEnds (task : Task) (bytes : List ℕ) (sink : SinkChange) (Kept : Type 0) (before now : ℕ)
    (status : Status) : Type 0 where
  pub answers : IsAnswered task bytes sink Kept (now - before) status
  pub works : Works task (task.fault bytes) bytes sink (now - before) status
  pub counted : before ≤ now
