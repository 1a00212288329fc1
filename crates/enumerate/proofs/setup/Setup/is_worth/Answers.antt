-- What leaves no tiling leads to a state that is not live.
use Rattle.std.proofs.Common.{◌-◌, arith, rules}
use Rattle.enumerate.proofs.TilingLaws.{live-after}
use Rattle.enumerate.proofs.TryLemmas.{enters-dead}
use Rattle.enumerate.proofs.setup.Setup.is_worth.Goals as goal

pub returns-then-self-eq0-clause-live : goal.returns-then-self-eq0-clause-live
returns-then-self-eq0-clause-live c = λ is table mode left less. absurd (omega (arith, less, c.if-self-eq0.true))

pub returns-clause-dead : goal.returns-clause-dead
returns-clause-dead c = search (rules, (enters-dead c.args.self.now c.args.placement.now c.requires.below (c.args.self.now.left - 1)), live-after)

pub returns-clause-live : goal.returns-clause-live
returns-clause-live c = search (rules, live-after)
