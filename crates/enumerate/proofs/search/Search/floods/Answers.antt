-- What is noted is the work.
use Rattle.enumerate.specs.ViewOf.{events_to_come, whole_of, work}
use Rattle.enumerate.proofs.search.Search.floods.Goals as goal

pub returns : goal.returns
unfolding work whole_of events_to_come
returns c = c.args.self.now.noted
