-- What is held is of the piece.
use Rattle.place_sets.proofs.CallerLemmas.{holds-piece}
use Rattle.worked_fields.proofs.places.count.Goals as goal

pub loop-number-preserved : goal.loop-number-preserved
loop-number-preserved c = holds-piece c.args.held.now c.in-Some.next c.in-Some.ensures.member
