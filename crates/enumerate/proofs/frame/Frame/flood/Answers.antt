-- What the flood holds is the places of the kind, in order.
use Rattle.std.proofs.Common.{◌≡◌, refl, subst, rules}
use Rattle.reach.specs.FloodRules.{flood_table}
use Rattle.srs.proofs.CallerLemmas.{some_same}
use Rattle.well.specs.Well.{filled}
use Rattle.place_sets.specs.LowPlaces.{piece_of}
use Rattle.enumerate.specs.Setups.{state_of}
use Rattle.enumerate.proofs.TryLemmas.{flooded-below, flooded-lockable, flooded-places}
use Rattle.enumerate.proofs.Counting.{counts-one}
use Rattle.enumerate.proofs.frame.Frame.flood.Goals as goal

pub invariant_of-self : goal.invariant_of-self
invariant_of-self g c =
    search (rules, some_same, (flooded-lockable (flood_table c.args.rules.now) (filled c.args.self.now.setup.well) c.args.drop_mode c.args.piece c.places_of.result c.places_of.ensures.piece c.args.self.now.setup.rows c.places_of.ensures.held), (flooded-below (flood_table c.args.rules.now) (filled c.args.self.now.setup.well) c.args.drop_mode c.args.piece c.places_of.result c.places_of.ensures.piece c.args.self.now.setup.rows c.places_of.ensures.held))

pub returns-clause-places : goal.returns-clause-places
unfolding state_of
returns-clause-places g c =
    flooded-places (flood_table c.args.rules.now) (filled c.args.self.now.setup.well) c.args.drop_mode c.args.piece c.places_of.result c.places_of.ensures.piece c.args.self.now.setup.rows c.places_of.ensures.held (state_of (flood_table c.args.rules.now) c.args.drop_mode c.args.self.now.setup) refl refl refl

pub returns-clause-piece : goal.returns-clause-piece
returns-clause-piece g c = λ x is. subst (λ p. piece_of p ≡ c.args.piece) (some_same is) c.places_of.ensures.piece

pub returns-clause-noted : goal.returns-clause-noted
returns-clause-noted g c = counts-one c.args.floods.now _ c.args.steps.now _ c.saturating_add.ensures c.places_of.ensures.counted
