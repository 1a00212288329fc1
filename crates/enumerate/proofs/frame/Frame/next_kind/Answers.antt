-- A kind that may not come is passed by.
use Rattle.std.proofs.Common.{length, refl, sym, ap, ◌∙◌, arith, rules}
use Rattle.enumerate.proofs.TryLemmas.{goes-past_kind}
use Rattle.enumerate.proofs.frame.Frame.next_kind.Goals as goal

pub loop-piece-init : goal.loop-piece-init
loop-piece-init c = record { same = refl; none = c.requires; goes = λ table mode prefix. refl }

pub loop-piece-smaller : goal.loop-piece-smaller
loop-piece-smaller c = omega (arith, ap length c.in-Some.ensures)

pub loop-piece-preserved : goal.loop-piece-preserved
loop-piece-preserved c = search (rules, goes-past_kind)

pub returns-then-may_come-clause-next : goal.returns-then-may_come-clause-next
returns-then-may_come-clause-next c = (c.in-Some.ensures, sym c.may_come.ensures ∙ c.if-may_come.true)

pub returns-clause-next : goal.returns-clause-next
returns-clause-next c = c.in_default.ensures
