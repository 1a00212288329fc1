-- What is held are the places, which are those of the window.
use Rattle.std.proofs.Common.{refl, sym, subst, arith}
use Rattle.lane_board.specs.Field.{Field}
use Rattle.srs.specs.Kick.{srs_table}
use Rattle.well.specs.Well.{filled}
use Rattle.well.specs.LockLaws.{LiesBelow}
use Rattle.moves.proofs.CallerLemmas.{window}
use Rattle.moves.specs.Place.{IsPlace}
use Rattle.place_sets.specs.States.{HasExactly, IsUnder, states_of}
use Rattle.place_sets.proofs.CallerLemmas.{places_held}
use Rattle.low_flood.proofs.CallerLemmas.{places_under}
use Rattle.reach.proofs.find.window_places.Goals as goal

pub low_places-held-requires : goal.low_places-held-requires
low_places-held-requires g c = (omega arith, (subst (λ (F : Field). LiesBelow F 8) (sym c.board.ensures) c.requires, (refl, omega arith)))

pub returns-clause-held : goal.returns-clause-held
returns-clause-held g c =
    let F = filled c.args.well.now in
    places_held (IsPlace srs_table F c.args.drop_mode) c.args.piece (states_of c.low_places-held.result) c.of_states.result c.of_states.ensures.held
    (places_under F c.args.drop_mode c.args.piece (states_of c.low_places-held.result) c.requires
    (subst (λ (F : Field). HasExactly (IsUnder 24 (IsPlace srs_table F c.args.drop_mode)) c.args.piece (states_of c.low_places-held.result)) c.board.ensures c.low_places-held.ensures))

pub returns-clause-window : goal.returns-clause-window
returns-clause-window g c = λ r q clear low.
    let held = returns-clause-held g c q in
    let law = window (filled c.args.well.now) r c.args.drop_mode q clear low in
    (λ is. let parts = held.0 is in (parts.0, law.1 parts.1), λ place. held.1 (place.0, law.0 place.1))
