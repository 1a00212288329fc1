-- The law, by its lemma.
use Rattle.cover.proofs.LawLemmas.{covered-solved}
use Rattle.cover.proofs.laws.all_solutions_cover_each_queue_that_has_one.Goals as goal

pub returns : goal.returns
returns c = covered-solved
