-- What the exit status of the program says.
use Rattle.std.specs.Prelude.{◌≡◌, ℕ, ◌⊎◌}
use Rattle.pc_faults.specs.declared.status.Status.{Status}
use Rattle.pc_faults.specs.Codes.{status_code}

-- done, a fault of the input, a failed read, a failed write, no memory
abbrev pub IsExitStatus : ℕ → Type 0
IsExitStatus code = (code ≡ 0) ⊎ (code ≡ 2) ⊎ (code ≡ 3) ⊎ (code ≡ 4) ⊎ (code ≡ 5)

-- the exit status is that of a status of which this holds
pub record HasStatus (code : ℕ) (Holds : Status → Type 0) : Type 0 where
  pub status : Status
  pub is : code ≡ status_code status
  pub holds : Holds status
