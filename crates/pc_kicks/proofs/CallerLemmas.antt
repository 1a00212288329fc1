-- What crates above cite: one output.
use Rattle.std.proofs.Common.{◌≡◌, ◌∙◌, ℕ, List, Result, Ok, ap, sym}
use Rattle.srs.specs.Kick.{Table}
use Rattle.kick_file.specs.declared.fault.KickFault.{KickFault}
use Rattle.pc_kicks.specs.Lines.{kicks_form}
use Rattle.pc_kicks.specs.Output.{IsKicksOutput}

same_read : (t u : Table) → ◌≡◌ {A = Result Table KickFault} (Ok t) (Ok u) → t ≡ u
same_read t u e = cc

pub one_kicks_output : (read : Result Table KickFault) (a b : List ℕ) → IsKicksOutput read a → IsKicksOutput read b → a ≡ b
one_kicks_output read a b first second = first.lines ∙ ap kicks_form (same_read first.table second.table (sym first.is_read ∙ second.is_read)) ∙ sym second.lines
