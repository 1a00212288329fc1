-- No column before this one is the last of an uneven start.
use Rattle.empty_cells.specs.Empties.{empty_cells}
use Rattle.empty_cells.proofs.RefusalLemmas.{NoStart}
use Rattle.empty_cells.proofs.empties.Empties.has_uneven_start.Given as goal

abbrev pub invariant-loop-last : goal.invariant-loop-last
invariant-loop-last l = NoStart (empty_cells l.self) l.last
