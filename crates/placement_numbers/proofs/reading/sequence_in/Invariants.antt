-- The numbers so far are read, and there is room for what is left.
use Rattle.std.proofs.Common.{◌≡◌, ◌+◌, ◌*◌, length}
use Rattle.arrayvec.specs.ArrayVec.{array_vec_len}
use Rattle.placement_numbers.proofs.ReadAsTheyStand.{HasRead}
use Rattle.placement_numbers.proofs.reading.sequence_in.Given as goal

abbrev pub invariant-loop-rest : goal.invariant-loop-rest
invariant-loop-rest l =
    HasRead l.numbers l.sequence.items l.rest × (4 * array_vec_len l.sequence + length l.rest ≡ 4 * l.fn.needed)

abbrev pub decreases-loop-rest : goal.decreases-loop-rest
decreases-loop-rest l = length l.rest
