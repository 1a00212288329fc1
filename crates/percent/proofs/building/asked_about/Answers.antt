-- All bits, or those that are pending.
use Rattle.percent.proofs.MarkLemmas.{all_set}
use Rattle.percent.proofs.building.asked_about.Goals as goal

pub returns-clause-pending : goal.returns-clause-pending
returns-clause-pending c = λ k few there. all_set k few

pub returns-clause-all : goal.returns-clause-all
returns-clause-all c = λ unused k few. all_set k few
