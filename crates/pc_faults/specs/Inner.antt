-- The faults that a command finds, and those that it does not.
use Rattle.std.specs.Prelude.{◌≡◌, Bool, true, false, Option, Some, None}
use Rattle.pc_faults.specs.declared.fault.Fault.{Fault}
use Rattle.pc_faults.specs.declared.fault.Fault.TheVariants.{Kicks, SourceTooLong, Words}

-- a fault that no command finds: one of the words or of the offsets that they give, or that the source is too long
abbrev pub is_outer : Fault → Bool
is_outer (Words fault) = true
is_outer (Kicks fault) = true
is_outer SourceTooLong = true
is_outer other = false

-- no such fault
abbrev pub IsInner : Option Fault → Type 0
IsInner None = Unit {0}
IsInner (Some fault) = is_outer fault ≡ false
