-- Each turn finds the first queue that fails, or one more that is good.
use Rattle.std.proofs.Common.{◌≡◌, true, false, arith}
use Rattle.percent.specs.Answers.{problem_of}
use Rattle.calling.proofs.FailedQueues.{all_good, fails_first, good_more}
use Rattle.calling.proofs.failed.first_failed_by.Goals as goal

pub returns-then-not-is_good : goal.returns-then-not-is_good
returns-then-not-is_good g c =
    let fails : c.is_good.result ≡ false = cc in
    fails_first c.args.problem.now (problem_of c.in_ok-answers.answers) c.in_ok-answers.ensures.problem c.loop-number.number c.loop-number.invariant c.is_good.result c.is_good.ensures
    c.queue.result.items c.queue.ensures fails

pub loop-number-preserved : goal.loop-number-preserved
loop-number-preserved g c =
    let passes : c.is_good.result ≡ true = cc in
    good_more c.args.problem.now (problem_of c.in_ok-answers.answers) c.in_ok-answers.ensures.problem c.loop-number.number c.loop-number.invariant c.is_good.result c.is_good.ensures
    (omega (arith, c.loop-number-test.true, c.count-number-end.ensures.number)) passes

pub returns : goal.returns
returns g c = all_good c.args.problem.now c.loop-number.number (omega (arith, c.loop-number-test.false, c.count-number-end.ensures.number)) c.loop-number.invariant
