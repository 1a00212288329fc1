-- Where no placement is to come no row may be left.
use Rattle.std.proofs.Common.{◌&&◌, ap, sym, ◌∙◌}
use Rattle.well.specs.Well.{filled}
use Rattle.tails.specs.TailSets.{has}
use Rattle.std.proofs.lemmas.Result.{IfOk-weaker}
use Rattle.percent.proofs.GoodSteps.{good-ends}
use Rattle.percent.proofs.answered.answered_first.Goals as goal

pub returns-then-left-eq0-clause-members : goal.returns-then-left-eq0-clause-members
returns-then-left-eq0-clause-members g c =
    let p = c.args.position.now in
    IfOk-weaker c.answered_at_end.result _ _ (λ v h tail. h tail ∙ ap (λ b. has c.args.tails.now tail && b) (sym (good-ends c.args.kept.now.tree c.args.kept.now.game (filled p.well) p.rows c.args.left tail c.if-left-eq0.true)))
    c.answered_at_end.ensures
