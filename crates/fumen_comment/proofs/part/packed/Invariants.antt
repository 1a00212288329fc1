-- The characters packed so far, and what is left completes the number.
use Rattle.fumen_comment.proofs.Packing.{IsPackedSoFar}
use Rattle.fumen_comment.proofs.part.packed.Given as goal

abbrev pub invariant-loop-c : goal.invariant-loop-c
invariant-loop-c l = IsPackedSoFar l.group l.c-index l.number l.weight
