-- So many solutions were passed.
use Rattle.std.proofs.Common.{length}
use Rattle.enumerate.specs.ViewOf.{solutions}
use Rattle.pc_selfrun.proofs.Counting.{IsCounted}
use Rattle.pc_selfrun.proofs.count.count_solutions.Given as goal

abbrev pub invariant-solutions : goal.invariant-solutions
invariant-solutions g l = IsCounted l.initial.search l.search l.initial.steps l.steps l.count

abbrev pub decreases-solutions : goal.decreases-solutions
decreases-solutions g l = length (solutions l.search)
