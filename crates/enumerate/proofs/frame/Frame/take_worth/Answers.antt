-- What is left to do is what was to do at the start, until there is something to do at a placement.
use Rattle.std.proofs.Common.{◌≡◌, length, refl, sym, ap, subst, ◌∙◌, arith, rules}
use Rattle.std.specs.Prelude.{true}
use Rattle.srs.proofs.CallerLemmas.{some_same}
use Rattle.well.specs.LockLaws.{is_below}
use Rattle.enumerate.specs.declared.setup.Setup.{Setup}
use Rattle.enumerate.proofs.TryLemmas.{none-left, one-entered, one-passed}
use Rattle.enumerate.proofs.frame.Frame.take_worth.Goals as goal

pub loop-placement-init : goal.loop-placement-init
loop-placement-init c = record { same = refl; tried = refl; goes = λ table mode prefix. refl }

pub invariant_of-self : goal.invariant_of-self
invariant_of-self c = search (rules, some_same)

pub leads_on-requires-clause-lockable : goal.leads_on-requires-clause-lockable
leads_on-requires-clause-lockable c = search rules

pub leads_on-requires-clause-below : goal.leads_on-requires-clause-below
leads_on-requires-clause-below c = subst (λ (s : Setup). is_below s.rows c.in-Some.placement ≡ true) (sym c.in-Some.ensures.same) c.in-Some.ensures.next.3

pub leads_on-requires-clause-known : goal.leads_on-requires-clause-known
leads_on-requires-clause-known c = search rules

pub loop-placement-smaller : goal.loop-placement-smaller
loop-placement-smaller c = omega (arith, ap length c.in-Some.ensures.next.0)

pub loop-placement-preserved : goal.loop-placement-preserved
loop-placement-preserved c = record {
  same = c.in-Some.ensures.same ∙ c.loop-placement.invariant.same;
  tried = c.in-Some.ensures.tried ∙ c.loop-placement.invariant.tried;
  goes = λ table mode prefix.
      c.loop-placement.invariant.goes table mode prefix
      ∙ one-passed table mode c.loop-placement.self _ c.in-Some.ensures.same
      c.in-Some.placement c.in-Some.ensures.next.0 c.in-Some.ensures.tried (c.leads_on.ensures.dead c.if-leads_on.false) prefix;
}

pub returns-then-leads_on-clause-next : goal.returns-then-leads_on-clause-next
returns-then-leads_on-clause-next c = search rules

pub returns-then-leads_on-clause-goes : goal.returns-then-leads_on-clause-goes
returns-then-leads_on-clause-goes c = λ table mode prefix.
    c.loop-placement.invariant.goes table mode prefix
    ∙ one-entered table mode c.loop-placement.self _ c.in-Some.ensures.same
    c.in-Some.placement c.in-Some.ensures.next.0 c.in-Some.ensures.tried prefix

pub returns-then-leads_on-clause-same : goal.returns-then-leads_on-clause-same
returns-then-leads_on-clause-same c = c.in-Some.ensures.same ∙ c.loop-placement.invariant.same

pub returns-then-leads_on-clause-tried : goal.returns-then-leads_on-clause-tried
returns-then-leads_on-clause-tried c = c.in-Some.ensures.tried ∙ c.loop-placement.invariant.tried

pub returns-clause-next : goal.returns-clause-next
returns-clause-next c = c.in_default.ensures.next.1

pub returns-clause-goes : goal.returns-clause-goes
returns-clause-goes c = search (rules, none-left)

pub returns-clause-same : goal.returns-clause-same
returns-clause-same c = c.in_default.ensures.same ∙ c.loop-placement.invariant.same

pub returns-clause-tried : goal.returns-clause-tried
returns-clause-tried c = c.in_default.ensures.tried ∙ c.loop-placement.invariant.tried
