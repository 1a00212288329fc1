-- The characters so far, and what is left completes the text.
use Rattle.fumen_comment.proofs.ReadLoop.{IsReadSoFar}
use Rattle.fumen_comment.proofs.part.read_text.Given as goal

abbrev pub invariant-loop-left : goal.invariant-loop-left
invariant-loop-left l = IsReadSoFar l.digits l.fn.place l.count l.text.items l.place l.left

abbrev pub decreases-loop-left : goal.decreases-loop-left
decreases-loop-left l = l.left
