-- What is held are the places that lie so low.
use Rattle.std.proofs.Common.{◌≡◌, ◌↔◌, subst}
use Rattle.std.specs.Prelude.{IsTrue}
use Rattle.lane_board.specs.Field.{Field}
use Rattle.srs.specs.declared.placement.Placement.{Placement}
use Rattle.srs.specs.Kick.{srs_table}
use Rattle.well.specs.LockLaws.{is_below}
use Rattle.well.specs.Well.{filled}
use Rattle.moves.specs.Place.{IsPlace}
use Rattle.reach.specs.FloodRules.{flood_table}
use Rattle.place_sets.specs.LowPlaces.{holds}
use Rattle.place_sets.specs.States.{HasExactly, IsUnder, states_of}
use Rattle.place_sets.proofs.CallerLemmas.{held_under, low_places_held}
use Rattle.reach.proofs.SameOffsets.{place_both}
use Rattle.reach.proofs.flood_rules.FloodRules.places_below.Goals as goal

pub returns-then-is_clear_from-clause-held : goal.returns-then-is_clear_from-clause-held
returns-then-is_clear_from-clause-held g c =
    let table = flood_table c.args.self.now in
    let F = filled c.args.well.now in
    let S = states_of c.low_places-states.result in
    let under = subst (λ (F : Field). HasExactly (IsUnder 8 (IsPlace srs_table F c.args.drop_mode)) c.args.piece S) c.as_board-filled.ensures c.low_places-states.ensures in
    low_places_held (IsPlace table F c.args.drop_mode) c.args.piece c.args.rows c.of_states.result S c.of_states.ensures.held (λ q kind low.
    let held = held_under (IsPlace srs_table F c.args.drop_mode) c.args.piece 8 c.args.rows S c.requires under q kind low in
    let both = place_both table srs_table F c.args.drop_mode c.args.piece (c.has_srs_offsets-srs.ensures.0 c.if-srs.true) q kind in
    (λ has. both.0 (held.0 has), λ place. held.1 (both.1 place)))

pub returns-clause-held : goal.returns-clause-held
returns-clause-held g c =
    subst (λ (F : Field). (q : Placement) → IsTrue (holds c.whole_places_below.result q)
    ↔ ((q.piece ≡ c.args.piece) × IsPlace (flood_table c.args.self.now) F c.args.drop_mode q × IsTrue (is_below c.args.rows q)))
    c.as_board-filled.ensures c.whole_places_below.ensures.held
