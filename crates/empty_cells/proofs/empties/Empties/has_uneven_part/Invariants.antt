-- The columns before this one.
use Rattle.prune.proofs.CallerLemmas.{Parts}
use Rattle.empty_cells.specs.Empties.{all_but, empty_cells}
use Rattle.empty_cells.proofs.empties.Empties.has_uneven_part.Given as goal

abbrev pub invariant-loop-x : goal.invariant-loop-x
invariant-loop-x l = Parts (all_but (empty_cells l.self)) 8 l.x l.cells
