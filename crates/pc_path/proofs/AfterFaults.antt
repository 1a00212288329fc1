-- The fault of a given text is that of its reading.
use Rattle.std.proofs.Common.{◌≡◌, ℕ, List, Some, None, Result, Ok, Err, ap, ◌↔◌, rules}
use Rattle.srs.specs.declared.placement.Placement.{Placement}
use Rattle.sequence_text.specs.Form.{IsRefusedAt, Spells}
use Rattle.sequence_text.specs.Reading.{sequence_in}
use Rattle.sequence_text.proofs.CallerLemmas.{read_is_spelled, refused_where_bad, spelled_is_read}
use Rattle.pc_faults.specs.declared.fault.Fault.TheVariants.{BadAfter}
use Rattle.pc_path.specs.Faults.{after_fault, sequence_fault}

pub given_spelled : (needed : ℕ) (text : List ℕ) (sequence : List Placement) → sequence_in needed text ≡ Ok sequence → Spells needed text sequence
given_spelled = read_is_spelled

no_fault : (answer : Result (List Placement) ℕ) → sequence_fault answer ≡ None → (sequence : List Placement) × (answer ≡ Ok sequence)
no_fault answer is = search rules

refused_at : (answer : Result (List Placement) ℕ) (place : ℕ) → sequence_fault answer ≡ Some (BadAfter place) → answer ≡ Err place
refused_at answer place is = search rules

pub no_fault_where_spelled : (needed : ℕ) (text : List ℕ) → (after_fault needed (Some text) ≡ None) ↔ ((sequence : List Placement) × Spells needed text sequence)
no_fault_where_spelled needed text = (
  λ none. let found = no_fault (sequence_in needed text) none in (found.0, read_is_spelled needed text found.0 found.1),
  λ spelled. ap sequence_fault (spelled_is_read needed text spelled.0 spelled.1),
)

pub bad_after_where_bad : (needed : ℕ) (text : List ℕ) (place : ℕ) → (after_fault needed (Some text) ≡ Some (BadAfter place)) ↔ IsRefusedAt needed text place
bad_after_where_bad needed text place = (
  λ bad. (refused_where_bad needed text place).0 (refused_at (sequence_in needed text) place bad),
  λ bad. ap sequence_fault ((refused_where_bad needed text place).1 bad),
)
