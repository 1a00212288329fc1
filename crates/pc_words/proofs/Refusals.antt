-- What refuses a request refuses the command that asks for it.
use Rattle.std.proofs.Common.{◌≡◌, ℕ, List, Option, Result, Err, rules}
use Rattle.std.specs.Prelude.{option_map}
use Rattle.srs.specs.Kick.{Table}
use Rattle.kick_file.specs.declared.fault.KickFault.{KickFault}
use Rattle.pc_faults.specs.declared.fault.Fault.{Fault}
use Rattle.pc_words.specs.Request.{Request, table_asked}
use Rattle.pc_words.specs.Views.{Refuses}
use Rattle.pc_words.specs.Words.{asked_in, or_missing}

pub refused : {A : Type 0} (pairs : List (List ℕ)) (table : A → Result Table KickFault) (make : A → Request) → ((asked : A) → table_asked (make asked) ≡ table asked)
    → (found : Option A) (fault : Fault) → Refuses pairs (option_map table found) fault → Err fault ≡ asked_in (or_missing pairs (option_map make found))
refused pairs table make same found fault is = search rules
