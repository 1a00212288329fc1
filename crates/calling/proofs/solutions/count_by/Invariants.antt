-- So many solutions were passed.
use Rattle.calling.proofs.ListedSolutions.{HasPassed}
use Rattle.calling.proofs.solutions.count_by.Given as goal

abbrev pub invariant-loop-count : goal.invariant-loop-count
invariant-loop-count g l = HasPassed l.fn.problem l.search l.count
