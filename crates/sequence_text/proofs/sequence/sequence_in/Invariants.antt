-- What was read and the bytes that are left give what the whole text gives, and there is room for all placements.
use Rattle.std.proofs.Common.{◌≡◌, ◌+◌, ◌-◌, [], drop}
use Rattle.arrayvec.specs.ArrayVec.{array_vec_len}
use Rattle.sequence_text.specs.Reading.{read_from, unread}
use Rattle.sequence_text.proofs.sequence.sequence_in.Given as goal

abbrev pub invariant-loop-place : goal.invariant-loop-place
invariant-loop-place l =
    (read_from l.read.items l.left l.now l.place (drop l.place l.text) ≡ read_from [] (l.fn.needed - 1) unread 0 l.text)
    × (array_vec_len l.read + l.left ≡ l.fn.needed - 1)
