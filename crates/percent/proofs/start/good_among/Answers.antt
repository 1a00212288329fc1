-- What fits is a part of the tails, and has all good ones.
use Rattle.std.proofs.Common.{◌∙◌}
use Rattle.std.proofs.lemmas.Result.{IfOk-weaker}
use Rattle.percent.proofs.start.good_among.Goals as goal

pub answered_first-requires-clause-tails : goal.answered_first-requires-clause-tails
answered_first-requires-clause-tails g c = λ tail there. c.requires.tails tail ((c.in_ok-fit.ensures c.args.kept.now.game).fewer tail there)

pub returns-clause-members : goal.returns-clause-members
returns-clause-members g c = IfOk-weaker c.answered_first.result _ _ (λ good is tail. is tail ∙ (c.in_ok-fit.ensures c.args.kept.now.game).same tail) c.answered_first.ensures.members
