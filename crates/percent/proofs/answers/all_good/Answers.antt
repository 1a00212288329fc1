-- The tail of each queue is good.
use Rattle.std.proofs.Common.{true, refl, subst, sym, arith}
use Rattle.percent.specs.QueueAnswers.{AreAnswers, numbered_tail}
use Rattle.percent.proofs.AnswerLemmas.{judge-starts, judge-more}
use Rattle.percent.proofs.answers.all_good.Goals as goal

pub loop-number-init : goal.loop-number-init
loop-number-init c = judge-starts c.args.problem.now c.in_ok-answers.answers.items c.in_ok-answers.ensures.items

pub loop-number-preserved : goal.loop-number-preserved
loop-number-preserved c =
    let problem = c.args.problem.now in
    let tree = c.args.tree.now in
    let number = c.loop-number.number in
    rw c.in_ok-push.ensures.items
    (judge-more problem tree c.args.alike c.args.tails.now c.loop-number.answers.items number (numbered_tail problem tree c.args.alike number) true c.requires.exact
    (omega (arith, c.loop-number-test.true, c.count-count.ensures.number)) refl
    (sym (c.requires.each.each number (omega (arith, c.loop-number-test.true, c.count-count.ensures.number)))) c.loop-number.invariant)

pub returns : goal.returns
returns c = subst (AreAnswers c.args.problem.now c.loop-number.answers.items) (omega (arith, c.loop-number-test.false, c.loop-number.auto.number-end, c.count-count.ensures.number)) c.loop-number.invariant
