-- The members above a listed one are those after it.
use Rattle.problem.proofs.ListLaws.{lists-resume, rest-is_list}
use Rattle.problem.proofs.laws.lists_resume.Goals as goal

pub returns-clause-after : goal.returns-clause-after
returns-clause-after c = λ problem queue bound front rest s. rest-is_list problem queue bound front rest s

pub returns-clause-divided : goal.returns-clause-divided
returns-clause-divided c = λ problem queue bound whole rest s. lists-resume problem queue bound whole rest s
