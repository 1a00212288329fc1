-- Where nothing was found all stay.
use Rattle.std.proofs.Common.{◌∙◌, ap}
use Rattle.tails.specs.declared.tail_set.TailSet.{TailSet}
use Rattle.tails.specs.TailSets.{has}
use Rattle.std.proofs.lemmas.Result.{IfOk-weaker}
use Rattle.percent.proofs.GoodSteps.{less-none}
use Rattle.percent.proofs.answered.less.Goals as goal

pub returns-then-is_empty-clause-members : goal.returns-then-is_empty-clause-members
returns-then-is_empty-clause-members c = less-none c.args.asked.rests c.args.found.now (c.is_empty.ensures.0 c.if-is_empty.true)

pub returns-clause-members : goal.returns-clause-members
returns-clause-members c =
    IfOk-weaker c.asked_of.result _ _ (λ v h rest. ap (λ (rests : TailSet). has rests rest) h ∙ c.in_ok-rests.ensures rest) c.asked_of.ensures.rests
