-- Why a line is not written, and what the count of faults says of it.
use Rattle.std.specs.Prelude.{◌≡◌, ◌≢◌, ℕ, ◌≤◌, Bool, true, Result, Err}
use Rattle.pc_outside.specs.Counts.{Rose}
use Rattle.line_writing.specs.declared.write_fault.WriteFault.{WriteFault}
use Rattle.line_writing.specs.declared.write_fault.WriteFault.TheVariants.{Failed}

-- The count of faults never falls, and a write failed only where it rose. Where failed calls alone are counted, it
-- stayed as it was otherwise, also where memory was wanting.
pub record HasWriteCause {T : Type 0} (alone : Bool) (before now : ℕ) (result : Result T WriteFault) : Type 0 where
  pub later : before ≤ now
  pub kept : alone ≡ true → result ≢ Err Failed → now ≡ before
  pub failed : result ≡ Err Failed → Rose before now
