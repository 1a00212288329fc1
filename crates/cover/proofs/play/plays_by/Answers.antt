-- Each placement is looked up in the places of its piece.
use Rattle.std.proofs.Common.{◌≡◌, ◌+◌, ◌-◌, ◌∙◌, ◌∷◌, sym, ap, drop, get_or, drop-cons, add-one, refl, subst, rules}
use Rattle.srs.specs.Rules.{table_of}
use Rattle.srs.specs.declared.placement.Placement.{Placement}
use Rattle.srs.specs.declared.piece.Piece.TheVariants.{I}
use Rattle.srs.specs.declared.rotation.Rotation.TheVariants.{Spawn}
use Rattle.well.specs.Well.{filled}
use Rattle.problem.proofs.CallerLemmas.{filled-low}
use Rattle.well.proofs.CallerLemmas.{free_inside}
use Rattle.moves.specs.Place.{IsPlace}
use Rattle.moves.proofs.CallerLemmas.{place-free}
use Rattle.cover.proofs.PlayLemmas.{played-starts, played-goes_on}
use Rattle.cover.proofs.play.plays_by.Goals as goal

abbrev no_placement : Placement
no_placement = record { piece = I; rotation = Spawn; x = 0; y = 0 }

pub placements-init : goal.placements-init
placements-init g c = search (rules, played-starts, filled-low)

pub lies_below-requires : goal.lies_below-requires
lies_below-requires g c = search (rules, free_inside, place-free)

pub lock-removed-requires : goal.lock-removed-requires
lock-removed-requires g c = search (rules, place-free)

pub placements-preserved : goal.placements-preserved
placements-preserved g c =
    let problem = c.args.problem.now in
    let items = c.as_slice-placement-items.result.now in
    let i = c.placements.placement-index in
    let q = get_or items i no_placement in
    let split : drop i items ≡ q ∷ drop (i + 1) items = let within = c.placements-test.true in rw (add-one, drop-cons items i no_placement) refl in
    let place = subst (λ table. IsPlace table (filled c.placements.well) problem.drop_mode q) c.requires.rules
    ((c.places-places.ensures.held q).0 (sym c.contains.ensures ∙ c.if-not-contains.false)).1 in
    played-goes_on (table_of problem.rules) problem.drop_mode (filled problem.well) (filled c.placements.well) problem.height c.placements.rows c.args.sequence.now.items (drop (i + 1) items) (drop i items) q
    c.args.steps.now c.placements.steps c.places-places.new.steps i c.placements.invariant split
    (filled c.lock-removed.result.0) c.saturating_sub-rows.result place (sym c.lies_below.ensures ∙ c.if-not-lies_below.false) c.lock-removed.ensures.field
    (c.saturating_sub-rows.ensures ∙ ap (λ n. c.placements.rows - n) c.lock-removed.ensures.removed) c.places-places.ensures.counted
