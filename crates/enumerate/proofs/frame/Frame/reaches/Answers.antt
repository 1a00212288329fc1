-- The placements that are left rise, so that the search for one ends at it or past it.
use Rattle.std.proofs.Common.{◌≡◌, ◌∷◌, refl, sym, subst, rules}
use Rattle.std.specs.Prelude.{Contains, Some}
use Rattle.srs.proofs.CallerLemmas.{Contains-here, Contains-none}
use Rattle.enumerate.specs.Frames.{places_left}
use Rattle.enumerate.proofs.SkipLemmas.{not_first, past_it, places_left-rising}
use Rattle.enumerate.proofs.frame.Frame.reaches.Goals as goal

pub loop-placement-init : goal.loop-placement-init
loop-placement-init c = record { same = (λ among. among, λ among. among) }

pub with_entered-probe-requires : goal.with_entered-probe-requires
with_entered-probe-requires c = c.in-Some.ensures.next.1

pub loop-placement-smaller : goal.loop-placement-smaller
loop-placement-smaller c = search rules

pub loop-placement-preserved : goal.loop-placement-preserved
loop-placement-preserved c =
    let rest : places_left c.with_entered-probe.result.places c.with_entered-probe.result.entered ≡ places_left c.take_upcoming.new.self.places (Some c.in-Some.placement) =
    λ i. places_left (c.with_entered-probe.ensures.places i) (c.with_entered-probe.ensures.entered i) in
    let one = not_first c.in-Some.placement c.args.target.now (places_left c.take_upcoming.new.self.places (Some c.in-Some.placement)) (sym c.in-Less.ensures.order) in
    record {
      same = (
        λ among. c.loop-placement.invariant.same.0 (subst (λ l. Contains l c.args.target.now) (sym c.in-Some.ensures.next.0) (one.1 (subst (λ l. Contains l c.args.target.now) rest among))),
        λ among. subst (λ l. Contains l c.args.target.now) (sym rest) (one.0 (subst (λ l. Contains l c.args.target.now) c.in-Some.ensures.next.0 (c.loop-placement.invariant.same.1 among))),
      );
    }

pub returns-in-Equal : goal.returns-in-Equal
returns-in-Equal c =
    let same : c.in-Some.placement ≡ c.args.target.now = c.in-Equal.ensures.equal.0 refl in
    let here : Contains (places_left c.loop-placement.probe.places c.loop-placement.probe.entered) c.args.target.now =
    subst (λ l. Contains l c.args.target.now) (sym c.in-Some.ensures.next.0)
    (subst (λ q. Contains (c.in-Some.placement ∷ places_left c.take_upcoming.new.self.places (Some c.in-Some.placement)) q) same (Contains-here c.in-Some.placement (places_left c.take_upcoming.new.self.places (Some c.in-Some.placement)))) in
    (λ _. c.loop-placement.invariant.same.0 here, λ _. refl)

pub returns-in-Greater : goal.returns-in-Greater
returns-in-Greater c =
    search (rules, (places_left-rising c.loop-placement.probe.places c.loop-placement.probe.entered), (past_it c.in-Some.placement c.args.target.now (places_left c.take_upcoming.new.self.places (Some c.in-Some.placement))), c.loop-placement.invariant.same.1)

pub returns : goal.returns
returns c = search (rules, Contains-none)
