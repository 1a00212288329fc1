-- The tilings before this one that are used.
use Rattle.empty_cells.specs.Empties.{empty_cells}
use Rattle.percent.proofs.BuildingLemmas.{Using}
use Rattle.percent.proofs.marks.Marks.note_used.Given as goal

abbrev pub invariant-loop-index : goal.invariant-loop-index
invariant-loop-index l =
    Using l.mark.tilings.tilings.items (empty_cells l.self.cells) l.self.drops l.weights l.allowed l.open l.fn.used.items l.used.items l.index
