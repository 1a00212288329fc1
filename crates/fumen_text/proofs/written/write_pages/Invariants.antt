-- What is written so far, and what is left completes all.
use Rattle.fumen_text.proofs.WriteLoop.{IsWrittenSoFar}
use Rattle.fumen_text.proofs.written.write_pages.Given as goal

abbrev pub invariant-loop-i : goal.invariant-loop-i
invariant-loop-i l = IsWrittenSoFar l.dialect l.pages l.digits.items l.before l.promised l.i
