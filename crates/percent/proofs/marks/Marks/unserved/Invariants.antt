-- The bits that are left, and the tilings before this one that are used.
use Rattle.empty_cells.specs.Empties.{empty_cells}
use Rattle.percent.proofs.BuildingLemmas.{Pending, Using}
use Rattle.percent.proofs.marks.Marks.unserved.Given as goal

abbrev pub invariant-loop-index : goal.invariant-loop-index
invariant-loop-index l =
    Pending l.mark.tilings.tilings.items (empty_cells l.self.cells) l.self.drops l.weights l.allowed l.open l.pending l.index
    × Using l.mark.tilings.tilings.items (empty_cells l.self.cells) l.self.drops l.weights l.allowed l.open l.fn.used.items l.used.items l.index
