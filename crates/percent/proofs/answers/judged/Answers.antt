-- Each queue is judged by its tail.
use Rattle.std.proofs.Common.{length, subst, arith}
use Rattle.queue_pattern.specs.Pattern.{elements_of}
use Rattle.queue_pattern.specs.Queues.{queues}
use Rattle.percent.specs.QueueAnswers.{AreAnswers, numbered_tail}
use Rattle.percent.proofs.AnswerLemmas.{judge-starts, judge-more, whole-tails}
use Rattle.percent.proofs.StartLemmas.{part-within, tree-room}
use Rattle.percent.proofs.answers.judged.Goals as goal

pub all_good-requires-clause-each : goal.all_good-requires-clause-each
all_good-requires-clause-each c =
    whole-tails c.args.problem.now c.args.tree.now c.alike-alike.result c.args.all.now c.args.good.now _ c.in_ok-without.ensures (c.is_empty.ensures.0 c.if-is_empty.true) (c.requires.each c.alike-alike.result c.alike-alike.ensures)

pub all_good-requires-clause-exact : goal.all_good-requires-clause-exact
all_good-requires-clause-exact c = c.requires.exact c.alike-alike.result c.alike-alike.ensures

pub loop-number-init : goal.loop-number-init
loop-number-init c = judge-starts c.args.problem.now c.in_ok-answers.answers.items c.in_ok-answers.ensures.items

pub start-tail-requires-clause-within : goal.start-tail-requires-clause-within
start-tail-requires-clause-within c =
    part-within (length (queues (elements_of c.args.problem.now.pattern))) (length (queues (elements_of c.args.tree.now.pattern))) c.alike-alike.result c.loop-number.number
    c.alike-alike.ensures.some c.alike-alike.ensures.all (omega (arith, c.loop-number-test.true, c.count-count.ensures.number))

pub start-tail-requires-clause-room : goal.start-tail-requires-clause-room
start-tail-requires-clause-room c = tree-room c.args.problem.now (elements_of c.args.problem.now.pattern) c.args.tree.now c.requires.fit c.requires.own

pub loop-number-preserved : goal.loop-number-preserved
unfolding numbered_tail
loop-number-preserved c =
    let alike = c.alike-alike.result in
    rw c.in_ok-push.ensures.items
    (judge-more c.args.problem.now c.args.tree.now alike c.args.good.now c.loop-number.answers.items c.loop-number.number c.start-tail.result c.has_near.result
    (c.requires.exact alike c.alike-alike.ensures) (omega (arith, c.loop-number-test.true, c.count-count.ensures.number))
    c.start-tail.ensures.value c.has_near.ensures c.loop-number.invariant)

pub returns : goal.returns
returns c = subst (AreAnswers c.args.problem.now c.loop-number.answers.items) (omega (arith, c.loop-number-test.false, c.loop-number.auto.number-end, c.count-count.ensures.number)) c.loop-number.invariant
