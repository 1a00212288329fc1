-- The least placement is taken out until it is above the bound.
use Rattle.std.proofs.Common.{◌≡◌, false, ◌∷◌, length, refl, sym, ap, subst, ◌∙◌, arith}
use Rattle.std.specs.Prelude.{Contains, Some, None}
use Rattle.srs.specs.Order.{placement_cmp}
use Rattle.srs.specs.Placements.{placements_of}
use Rattle.srs.specs.Rising.{is_above}
use Rattle.srs.proofs.CallerLemmas.{some_same}
use Rattle.enumerate.proofs.Taken.{Listed, next-first, taken-above, taken-held, taken-rest, taken-same}
use Rattle.enumerate.proofs.left.take_above.Goals as goal

pub returns-then-is_above-clause-next : goal.returns-then-is_above-clause-next
returns-then-is_above-clause-next c =
    let listed : Listed c.loop-placement.places = λ q is. subst (λ p. Contains (placements_of p) q) (sym c.loop-placement.invariant.piece) (c.requires q (c.loop-placement.invariant.held q is)) in
    let least = c.in-Some.ensures.least in (
      c.loop-placement.invariant.same
          ∙ next-first c.loop-placement.places listed c.args.bound.now (Some c.in-Some.placement)
          (record { member = least.member; above = sym c.is_above.ensures ∙ c.if-is_above.true; least = λ y member above. least.least y member refl })
          ∙ ap (λ l. c.in-Some.placement ∷ l) (taken-above c.loop-placement.places c.take_least.new.self c.in-Some.ensures.piece (Some c.in-Some.placement) c.in-Some.ensures.rest c.in-Some.placement refl least),
      c.loop-placement.invariant.held c.in-Some.placement least.member,
    )

pub loop-placement-smaller : goal.loop-placement-smaller
loop-placement-smaller c =
    let listed : Listed c.loop-placement.places = λ q is. subst (λ p. Contains (placements_of p) q) (sym c.loop-placement.invariant.piece) (c.requires q (c.loop-placement.invariant.held q is)) in
    let least = c.in-Some.ensures.least in
    omega (
      arith,
      ap length (next-first c.loop-placement.places listed None (Some c.in-Some.placement) least),
      ap length (taken-above c.loop-placement.places c.take_least.new.self c.in-Some.ensures.piece (Some c.in-Some.placement) c.in-Some.ensures.rest c.in-Some.placement refl least),
      ap length (taken-rest c.loop-placement.places c.take_least.new.self c.in-Some.ensures.piece (Some c.in-Some.placement) c.in-Some.ensures.rest c.in-Some.placement refl least),
    )

pub loop-placement-preserved : goal.loop-placement-preserved
loop-placement-preserved c = record {
  piece = c.in-Some.ensures.piece ∙ c.loop-placement.invariant.piece;
  held = λ q is. c.loop-placement.invariant.held q (taken-held c.loop-placement.places c.take_least.new.self c.in-Some.ensures.piece (Some c.in-Some.placement) c.in-Some.ensures.rest q is);
  same = c.loop-placement.invariant.same
      ∙ taken-same c.loop-placement.places c.take_least.new.self c.in-Some.ensures.piece (Some c.in-Some.placement) c.in-Some.ensures.rest c.args.bound.now
      (λ q e. subst (λ p. is_above placement_cmp c.args.bound.now p ≡ false) (some_same e) (sym c.is_above.ensures ∙ c.if-is_above.false));
}

pub returns-clause-next : goal.returns-clause-next
returns-clause-next c =
    let listed : Listed c.loop-placement.places = λ q is. subst (λ p. Contains (placements_of p) q) (sym c.loop-placement.invariant.piece) (c.requires q (c.loop-placement.invariant.held q is)) in
    let none = next-first c.loop-placement.places listed c.args.bound.now None (record { none = λ y member above. c.in_default.ensures.least.none y member refl }) in (
      c.loop-placement.invariant.same ∙ none,
      sym (taken-same c.loop-placement.places c.take_least.new.self c.in_default.ensures.piece None c.in_default.ensures.rest c.args.bound.now (λ q e. cc)) ∙ none,
    )
