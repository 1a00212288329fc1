-- What a run leaves of the source.
use Rattle.std.specs.Prelude.{◌≡◌, ◌≢◌, ◌+◌, ℕ, List, [], Bool, true, false, Option, Some}
use Rattle.std.specs.Option.{ForSome}
use Rattle.pc_outside.specs.Reads.{TakesFirst, TakesAtMost}
use Rattle.pc_faults.specs.declared.fault.Fault.TheVariants.{SourceTooLong}
use Rattle.pc_faults.specs.declared.status.Status.{Status}
use Rattle.pc_faults.specs.declared.status.Status.TheVariants.{Done, Input, SourceFault}
use Rattle.pc_source.specs.Task.{most_bytes}

-- what is left of a source that is read: nothing at Done, and all but the first bytes where there are too many
pub record ReadsSource (old new : Option (List ℕ)) (status : Status) : Type 0 where
  pub ended : status ≡ Done → ForSome old (λ _. new ≡ Some [])
  pub too_long : status ≡ Input SourceTooLong → TakesFirst old new (most_bytes + 1)
  pub most : TakesAtMost old new (most_bytes + 1)

-- what is left of the source: all of it where it is not read, where `Kept` says that it was not touched
abbrev pub LeavesSource : Bool → Option (List ℕ) → Option (List ℕ) → Type 0 → Status → Type 0
LeavesSource true old new Kept status = ReadsSource old new status
LeavesSource false old new Kept status = Kept × (status ≢ SourceFault)
