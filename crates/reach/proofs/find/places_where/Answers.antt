-- What is held are the places.
use Rattle.well.specs.Well.{filled}
use Rattle.srs.specs.Rules.{table_of}
use Rattle.moves.specs.Place.{IsPlace}
use Rattle.place_sets.specs.States.{states_of}
use Rattle.place_sets.proofs.CallerLemmas.{places_held}
use Rattle.reach.proofs.find.places_where.Goals as goal

pub returns-clause-held : goal.returns-clause-held
returns-clause-held g c =
    places_held (IsPlace (table_of c.args.rules.now) (filled c.args.well.now) c.args.drop_mode) c.args.piece (states_of c.pivots_where-held.result) c.of_states.result c.of_states.ensures.held c.pivots_where-held.ensures
