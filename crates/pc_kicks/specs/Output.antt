-- What `kicks` writes.
use Rattle.std.specs.Prelude.{◌≡◌, ℕ, List, Ok, Result}
use Rattle.srs.specs.Kick.{Table}
use Rattle.kick_file.specs.declared.fault.KickFault.{KickFault}
use Rattle.pc_kicks.specs.Lines.{kicks_form}

-- the lines of the table that is read of a text
pub record IsKicksOutput (read : Result Table KickFault) (output : List ℕ) : Type 0 where
  pub table : Table
  pub is_read : read ≡ Ok table
  pub lines : output ≡ kicks_form table
