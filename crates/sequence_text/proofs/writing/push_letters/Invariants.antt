-- The letters of the keys so far are written.
use Rattle.std.proofs.Common.{◌≡◌, ◌+◌, ◌++◌, map, take}
use Rattle.arrayvec.specs.ArrayVec.{array_vec_len}
use Rattle.moves.specs.Keys.{key_letter}
use Rattle.sequence_text.proofs.writing.push_letters.Given as goal

abbrev pub invariant-loop-key : goal.invariant-loop-key
invariant-loop-key l =
    (l.text.items ≡ l.initial.text.items ++ map key_letter (take l.key-index l.keys)) × (array_vec_len l.text ≡ array_vec_len l.initial.text + l.key-index)
