use Rattle.tails.proofs.RestSteps.{sent-done, sent-more, sent-starts}
use Rattle.tails.proofs.rests.push_rests.Goals as goal

pub loop-taking-init : goal.loop-taking-init
loop-taking-init c = sent-starts c.args.block c.args.rests.now.items c.args.takings.now c.requires.fit

pub loop-taking-preserved : goal.loop-taking-preserved
loop-taking-preserved c =
    sent-more c.args.block c.sent.result.0 c.sent.result.1 c.args.rests.now.items c.loop-taking.rests.items c.push_some.new.blocks.items c.push_some-in-loop-taking.new.blocks.items
    c.args.takings.now c.loop-taking.taking-index _ c.loop-taking-test.true c.sent.ensures.sent c.in_ok-push_some.ensures.pushed c.in_ok-push_some-2.ensures.pushed
    c.in_ok-push_some-2.ensures.fit c.loop-taking.invariant

pub returns-clause-pushed : goal.returns-clause-pushed
returns-clause-pushed c = sent-done c.args.block c.args.rests.now.items c.args.takings.now c.loop-taking.taking-index c.loop-taking.rests.items c.loop-taking-test.false c.loop-taking.invariant
