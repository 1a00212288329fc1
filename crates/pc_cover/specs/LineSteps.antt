-- One line of the source, read behind others.
use Rattle.std.specs.Prelude.{◌≡◌, ℕ, ◌+◌, ◌++◌, List, ◌∷◌, length, Ok, Err}
use Rattle.pc_outside.specs.declared.answers.Refused.{Refused}
use Rattle.pc_outside.specs.declared.answers.Refused.TheVariants as refused
use Rattle.srs.specs.declared.placement.Placement.{Placement}
use Rattle.pc_faults.specs.declared.cover_fault.CoverFault.{CoverFault}
use Rattle.pc_cover.specs.Given.{Given, given_from}

-- these sequences before those that are read
abbrev pub behind_front : List (List Placement) → Given → Given
behind_front front (Ok sequences) = Ok (front ++ sequences)
behind_front front (Err fault) = Err fault

-- a line is read: what its text gives is given by the sequences after it and the lines behind it
pub record ReadsLine (needed number : ℕ) (line : List ℕ) (before after : List (List Placement)) : Type 0 where
  pub each : (lines : List (List ℕ)) → behind_front before (given_from needed number (length before) (line ∷ lines))
      ≡ behind_front after (given_from needed (number + 1) (length after) lines)

-- or it is refused: its text has this fault
abbrev pub RefusesLine : ℕ → ℕ → List ℕ → List (List Placement) → Refused CoverFault → Type 0
RefusesLine needed number line before (refused.Fault fault) =
    (lines : List (List ℕ)) → behind_front before (given_from needed number (length before) (line ∷ lines)) ≡ Err fault
RefusesLine needed number line before refused.NoMemory = Unit {0}
