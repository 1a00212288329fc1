-- The laws, by their lemmas.
use Rattle.agreement.proofs.GoodCovered.{covered-count, covered-good}
use Rattle.agreement.proofs.laws.all_solutions_cover_the_good_queues.Goals as goal

pub returns-clause-each : goal.returns-clause-each
returns-clause-each c = covered-good

pub returns-clause-count : goal.returns-clause-count
returns-clause-count c = λ problem sequences numbers is_good all list decides. covered-count problem sequences is_good all decides numbers list
