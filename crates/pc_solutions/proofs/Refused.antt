-- What refuses the listing refuses the call.
use Rattle.std.proofs.Common.{◌≡◌, Option, Some, Result, Err, rules}
use Rattle.std.specs.Prelude.{IsErrAnd}
use Rattle.pc_outside.specs.declared.answers.Refused.{Refused}
use Rattle.pc_outside.specs.declared.answers.Refused.TheVariants as refused
use Rattle.pc_faults.specs.declared.fault.Fault.{Fault}
use Rattle.pc_source.specs.Had.{IsRefusedInput}
use Rattle.pc_solutions.specs.Told.{refusal}
use Rattle.pc_solutions.specs.declared.list.Written.{Written}
use Rattle.pc_solutions.specs.declared.solutions.Refusal.{Refusal}
use Rattle.pc_solutions.specs.declared.solutions.Refusal.TheVariants as refusals

-- its fault is told
pub fault_told : (first : Option Fault) (r : Refused Fault) (result : Result Written Refusal) → IsErrAnd result (λ why. why ≡ refusal r) → IsRefusedInput first r
    → (fault : Fault) → result ≡ Err (refusals.Fault fault) → first ≡ Some fault
fault_told first r result told is fault same = search rules

-- and so is its want of memory
pub memory_told : (r : Refused Fault) (result : Result Written Refusal) → IsErrAnd result (λ why. why ≡ refusal r) → result ≡ Err refusals.NoMemory → r ≡ refused.NoMemory
memory_told r result told same = search rules

-- it is no other refusal
pub no_sequence_told : (r : Refused Fault) (result : Result Written Refusal) → IsErrAnd result (λ why. why ≡ refusal r) → result ≡ Err refusals.NoSequence → ⊥
no_sequence_told r result told same = search rules

pub no_room_told : (r : Refused Fault) (result : Result Written Refusal) → IsErrAnd result (λ why. why ≡ refusal r) → result ≡ Err refusals.NoRoom → ⊥
no_room_told r result told same = search rules
