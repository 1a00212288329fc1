-- The numbers of the placements so far are written.
use Rattle.std.proofs.Common.{◌≡◌, ◌+◌, ◌*◌, ◌++◌, take, drop}
use Rattle.placement_numbers.specs.Numbers.{sequence_numbers}
use Rattle.placement_numbers.proofs.writing.write_sequence.Given as goal

abbrev pub invariant-loop-placement : goal.invariant-loop-placement
invariant-loop-placement l =
    (l.at ≡ l.initial.at + 4 * l.placement-index)
    × (take l.at l.bytes ≡ take l.initial.at l.initial.bytes ++ sequence_numbers (take l.placement-index l.placements))
    × (drop l.at l.bytes ≡ drop l.at l.initial.bytes)
