-- The numbers of a fault, as a list.
use Rattle.std.specs.Prelude.{ℕ, List, [], ◌∷◌}
use Rattle.pc_faults.specs.declared.fault_line.FaultNumbers.{FaultNumbers}
use Rattle.pc_faults.specs.declared.fault_line.FaultNumbers.TheVariants as numbers

abbrev pub numbers_of : FaultNumbers → List ℕ
numbers_of numbers.None = []
numbers_of (numbers.One number) = number ∷ []
numbers_of (numbers.Two first second) = first ∷ second ∷ []
