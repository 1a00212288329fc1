-- The placements so far are written, each in at most eleven bytes.
use Rattle.std.proofs.Common.{◌≡◌, ◌+◌, ◌*◌, ◌≤◌, ◌++◌, take}
use Rattle.std.specs.List.{flat_map}
use Rattle.arrayvec.specs.ArrayVec.{array_vec_len}
use Rattle.sequence_text.specs.Plain.{next_form}
use Rattle.sequence_text.proofs.writing.push_sequence.Given as goal

abbrev pub invariant-loop-placement : goal.invariant-loop-placement
invariant-loop-placement l =
    (array_vec_len l.text ≤ 11 * l.placement-index + 10) × (l.text.items ≡ l.initial.text.items ++ flat_map next_form (take l.placement-index l.rest))
