-- The run that ends before this column.
use Rattle.well.specs.Well.{filled}
use Rattle.prune.proofs.RunLemmas.{Runs}
use Rattle.prune.proofs.cheap.has_uneven_run.Given as goal

abbrev pub invariant-loop-x : goal.invariant-loop-x
invariant-loop-x l = Runs (filled l.well) l.rows_left l.x l.run
