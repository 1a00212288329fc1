-- The pages so far are fit, and the first fault of all is that of what is left.
use Rattle.fumen_text.proofs.WrittenIsRead.{IsCheckedSoFar}
use Rattle.fumen_text.proofs.checks.check_pages.Given as goal

abbrev pub invariant-loop-i : goal.invariant-loop-i
invariant-loop-i l = IsCheckedSoFar l.dialect l.pages l.i
