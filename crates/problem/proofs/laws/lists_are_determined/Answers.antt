-- A rising list is determined by its members.
use Rattle.problem.proofs.ListLaws.{lists-same}
use Rattle.problem.proofs.laws.lists_are_determined.Goals as goal

pub returns : goal.returns
returns c = lists-same
