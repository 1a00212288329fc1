-- What fits of the list of tails fits of the rests.
use Rattle.std.proofs.Common.{ap, subst, sym, ◌∙◌}
use Rattle.std.proofs.lemmas.Result.{IfOk-weaker}
use Rattle.hands.specs.Numbers.{has_number}
use Rattle.tails.specs.TailSets.{has}
use Rattle.tails.specs.Tails.{AreHandsAt}
use Rattle.well.specs.Well.{filled}
use Rattle.percent.specs.GoodTails.{is_good_tail}
use Rattle.percent.proofs.FittingLemmas.{same-asked}
use Rattle.percent.proofs.marks.Marks.fitting_after.Goals as goal

pub returns-then-asked-gt0 : goal.returns-then-asked-gt0
returns-then-asked-gt0 c =
    let p = c.args.child.now.position in
    let asked = c.args.asked.now in
    IfOk-weaker c.fitting.result _ _
    (λ fit leaves tree have.
    same-asked (is_good_tail tree c.args.self.now.game (filled p.well) p.rows asked.left) (has_number c.as_slice.result.now) (has asked.rests) (has fit)
    (λ rest. ap (λ l. has_number l rest) c.as_slice.ensures.value ∙ asked.listed rest)
    (leaves tree c.args.self.now.game
    (subst (AreHandsAt tree c.as_slice.result.now) (sym c.as_slice-then-asked-gt0.ensures.value) (subst (λ l. AreHandsAt tree l asked.hands.items) (sym c.as_slice.ensures.value) have))))
    c.fitting.ensures
