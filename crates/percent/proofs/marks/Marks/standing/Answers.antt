-- It stands in the tilings of the lists that have it.
use Rattle.empty_cells.specs.Empties.{empty_cells}
use Rattle.percent.proofs.MarkLemmas.{standing-found}
use Rattle.percent.proofs.marks.Marks.standing.Goals as goal

pub returns : goal.returns
returns c =
    standing-found c.args.self.now.known.items c.args.self.now.rows c.args.placement.now c.args.pieces.now c.lists_with.result (empty_cells c.args.taken.now)
    c.requires.taken c.requires.kind c.requires.each c.lists_with.ensures
