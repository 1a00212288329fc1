-- Of faults in the order in which they are looked for, the first one that stands.
use Rattle.std.specs.Prelude.{List, [], ◌∷◌, Option, Some, None}
use Rattle.pc_faults.specs.declared.fault.Fault.{Fault}

-- the first of these that is one
abbrev pub first_of_these : List (Option Fault) → Option Fault
first_of_these [] = None
first_of_these (Some fault ∷ rest) = Some fault
first_of_these (None ∷ rest) = first_of_these rest
