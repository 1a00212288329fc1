use Rattle.tails.proofs.RestSteps.{some-push, some-same}
use Rattle.tails.proofs.rests.push_some.Goals as goal

pub returns-in_ok-push-clause-pushed : goal.returns-in_ok-push-clause-pushed
returns-in_ok-push-clause-pushed c = λ tail. some-push c.args.blocks.now.items c.push.new.self.items c.args.block tail c.in_ok-push.ensures.items

pub returns-else-block-ne0-clause-pushed : goal.returns-else-block-ne0-clause-pushed
returns-else-block-ne0-clause-pushed c = λ tail. some-same c.args.blocks.now.items c.args.block tail c.if-block-ne0.false
