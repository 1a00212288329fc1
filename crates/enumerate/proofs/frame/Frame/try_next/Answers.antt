-- The next placement with something to do is entered, or the next kind is tried.
use Rattle.std.proofs.Common.{◌∙◌, arith}
use Rattle.reach.specs.FloodRules.{flood_table}
use Rattle.enumerate.proofs.TryLemmas.{enters-try, tries-as}
use Rattle.enumerate.proofs.Counting.{counts-none}
use Rattle.enumerate.proofs.frame.Frame.try_next.Goals as goal

pub returns-in-Some-clause-tries : goal.returns-in-Some-clause-tries
returns-in-Some-clause-tries g c = grind (arith, enters-try)

pub returns-in-Some-clause-noted : goal.returns-in-Some-clause-noted
returns-in-Some-clause-noted g c = counts-none c.args.notes.now.floods c.args.steps.now

pub try_kind-requires : goal.try_kind-requires
try_kind-requires g c = c.in-None.ensures.next

pub returns-in-None-clause-tries : goal.returns-in-None-clause-tries
returns-in-None-clause-tries g c =
    tries-as (flood_table c.args.rules.now) c.args.drop_mode c.args.self.now c.take_worth.new.self c.try_kind.new.self _ c.try_kind.result c.args.steps.now c.try_kind.new.steps (λ i. (c.in-None.ensures.same i).left)
    (c.in-None.ensures.goes (flood_table c.args.rules.now) c.args.drop_mode) (c.try_kind.ensures.tries _)

pub returns-in-None-clause-same : goal.returns-in-None-clause-same
returns-in-None-clause-same g c = c.try_kind.ensures.same ∙ c.in-None.ensures.same
