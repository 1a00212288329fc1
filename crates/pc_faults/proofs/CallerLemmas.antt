-- What crates above cite: the first of two faults, and the faults that commands find.
use Rattle.std.proofs.Common.{◌≡◌, Bool, true, false, List, [], ◌∷◌, Option, Some, None, refl, sym, ◌∙◌}
use Rattle.std.specs.Prelude.{if◌then◌else◌, option_map}
use Rattle.pc_faults.specs.declared.fault.Fault.{Fault}
use Rattle.pc_faults.specs.FirstFault.{first_of_these}
use Rattle.pc_faults.specs.Inner.{IsInner, is_outer}

-- the first one stands
pub first_stops : (one : Option Fault) (rest : List (Option Fault)) (f : Fault) → one ≡ Some f → first_of_these (one ∷ rest) ≡ Some f
first_stops one rest f is = rw (is) refl

-- it does not, and what comes after it is left
first_passes : (one : Option Fault) (rest : List (Option Fault)) → one ≡ None → first_of_these (one ∷ rest) ≡ first_of_these rest
first_passes one rest none = rw (none) refl

pub first_alone : (one : Option Fault) → first_of_these (one ∷ []) ≡ one
first_alone None = refl
first_alone (Some f) = refl

-- of two, the second where the first is none
pub second_left : (one other : Option Fault) → one ≡ None → first_of_these (one ∷ other ∷ []) ≡ other
second_left one other none = first_passes one (other ∷ []) none ∙ first_alone other

-- none stands
pub none_first : (one : Option Fault) (rest : List (Option Fault)) → first_of_these (one ∷ rest) ≡ None → (one ≡ None) × (first_of_these rest ≡ None)
none_first None rest none = (refl, none)
none_first (Some f) rest none = cc

pub none_last : (one other : Option Fault) → first_of_these (one ∷ other ∷ []) ≡ None → other ≡ None
none_last one other none = sym (first_alone other) ∙ (none_first one (other ∷ []) none).1

-- no command finds a fault of the words, or that the source is too long
pub inner_first : (one : Option Fault) (rest : List (Option Fault)) → IsInner one → IsInner (first_of_these rest) → IsInner (first_of_these (one ∷ rest))
inner_first None rest here there = there
inner_first (Some f) rest here there = here

-- a fault that is made of another one
pub inner_map : {X : Type 0} (made : X → Fault) (found : Option X) → ((x : X) → is_outer (made x) ≡ false) → IsInner (option_map made found)
inner_map made None inner = tt
inner_map made (Some x) inner = inner x

-- a fault that is tested for
pub inner_test : (test : Bool) (f : Fault) → is_outer f ≡ false → IsInner (if test then Some f else None)
inner_test true f inner = inner
inner_test false f inner = tt
