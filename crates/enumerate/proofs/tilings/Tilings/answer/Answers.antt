-- Each step takes one place out.
use Rattle.std.proofs.Common.{refl, sym, subst, rules}
use Rattle.std.specs.Prelude.{Contains, Some, None}
use Rattle.srs.specs.Placements.{placements_of}
use Rattle.enumerate.proofs.Taken.{Listed, next-first, taken-above, taken-rest}
use Rattle.enumerate.proofs.tilings.Tilings.answer.Goals as goal

pub loop-placement-smaller : goal.loop-placement-smaller
loop-placement-smaller c =
    let left = c.loop-placement.open in
    let listed : Listed left = λ q is. subst (λ p. Contains (placements_of p) q) (sym c.loop-placement.invariant.same) (c.requires.listed q (c.loop-placement.invariant.held q is)) in
    search (rules, (next-first left listed None (Some c.in-Some.placement) c.in-Some.ensures.least), (taken-above left c.take_least.new.self c.in-Some.ensures.piece (Some c.in-Some.placement) c.in-Some.ensures.rest c.in-Some.placement refl c.in-Some.ensures.least), (taken-rest left c.take_least.new.self c.in-Some.ensures.piece (Some c.in-Some.placement) c.in-Some.ensures.rest c.in-Some.placement refl c.in-Some.ensures.least))
