use Rattle.std.proofs.Common.{◌+◌, nat_lt, ◌&&◌, ◌∙◌, ap}
use Rattle.std.specs.List.{list_any}
use Rattle.std.proofs.lemmas.List.{take_all}
use Rattle.tails.specs.Takings.{runs_to}
use Rattle.tails.specs.TailSets.{has}
use Rattle.tails.proofs.RestSteps.{leading-more, leading-starts}
use Rattle.tails.proofs.tail_set.TailSet.leading.Goals as goal

pub loop-taking-init : goal.loop-taking-init
loop-taking-init c = leading-starts

pub loop-taking-preserved : goal.loop-taking-preserved
unfolding runs_to
loop-taking-preserved c = λ k.
    leading-more (runs_to (has c.args.self.now) (c.args.place + k)) c.args.takings.now c.loop-taking.taking-index _ c.loop-taking.leading c.window.result c.bits_of_either-leading.result k
    c.loop-taking-test.true (c.bits_of_either-leading.ensures k) (c.window.ensures k) (c.loop-taking.invariant k)

pub returns : goal.returns
returns c = λ k.
    c.loop-taking.invariant k
    ∙ ap (λ l. nat_lt k 64 && list_any (runs_to (has c.args.self.now) (c.args.place + k)) l) (take_all c.loop-taking.taking-index c.args.takings.now c.loop-taking-test.false)
