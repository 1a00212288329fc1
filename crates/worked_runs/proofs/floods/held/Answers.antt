-- What is held is of the piece.
use Rattle.place_sets.proofs.CallerLemmas.{holds-piece}
use Rattle.worked_runs.proofs.floods.held.Goals as goal

pub loop-number-preserved : goal.loop-number-preserved
loop-number-preserved c = holds-piece c.args.places.now c.in-Some.placement c.in-Some.ensures.member
