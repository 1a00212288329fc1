-- The kinds so far are those of the first placements.
use Rattle.std.proofs.Common.{◌≡◌, take}
use Rattle.problem.specs.Solution.{pieces_of}
use Rattle.cover.proofs.kinds.kinds_of.Given as goal

abbrev pub invariant-placements : goal.invariant-placements
invariant-placements l = l.kinds.items ≡ pieces_of (take l.placement-index l.sequence.items)
