-- The digits read so far, and what is left completes the number.
use Rattle.fumen_digits.proofs.ReadLoop.{IsSoFar}
use Rattle.fumen_digits.proofs.number.read_digits.Given as goal

abbrev pub invariant-loop-i : goal.invariant-loop-i
invariant-loop-i l = IsSoFar l.digits l.place l.count l.i l.number l.weight
