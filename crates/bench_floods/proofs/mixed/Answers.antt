-- What is held is of the piece.
use Rattle.place_sets.proofs.CallerLemmas.{holds-piece}
use Rattle.bench_floods.proofs.mixed.Goals as goal

pub loop-preserved : goal.loop-preserved
loop-preserved c = holds-piece c.args.held.now c.in-Some.next c.in-Some.ensures.member
