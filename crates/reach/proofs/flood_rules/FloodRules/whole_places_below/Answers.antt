-- What is held are the places that lie so low.
use Rattle.lane_board.specs.Board.{field_of}
use Rattle.reach.specs.FloodRules.{flood_table}
use Rattle.moves.specs.Place.{IsPlace}
use Rattle.place_sets.specs.States.{states_of}
use Rattle.place_sets.proofs.CallerLemmas.{low_places_held}
use Rattle.reach.proofs.flood_rules.FloodRules.whole_places_below.Goals as goal

pub returns-clause-held : goal.returns-clause-held
unfolding flood_table
returns-clause-held c =
    low_places_held (IsPlace (flood_table c.args.self.now) (field_of c.args.filled.now) c.args.drop_mode) c.args.piece c.args.rows c.of_states.result (states_of c.whole_places-states.result)
    c.of_states.ensures.held (λ q kind low. c.whole_places-states.ensures.exact q kind)
