-- The cases of the hold and the held piece.
use Rattle.percent.proofs.StartLemmas.{drawn-avoided, drawn-free, drawn-held}
use Rattle.percent.proofs.start.pieces_that_matter.Goals as goal

pub returns-in-Allowed-None : goal.returns-in-Allowed-None
returns-in-Allowed-None c = drawn-free c.args.problem.now c.needed-placements.result c.in-Allowed-None.is-0 c.in-Allowed-None.is-1 c.needed-placements.ensures

pub returns-in_default : goal.returns-in_default
returns-in_default c = drawn-held c.args.problem.now c.needed-placements.result _ c.in_default.is-0 c.in_default.is-1 c.needed-placements.ensures

pub returns-in_default-2 : goal.returns-in_default-2
returns-in_default-2 c = drawn-avoided c.args.problem.now c.needed-placements.result c.in_default.is-0 c.needed-placements.ensures
