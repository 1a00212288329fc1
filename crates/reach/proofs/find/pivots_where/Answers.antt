-- The pivots of the places, by the flood of low fields where the offsets are those of SRS.
use Rattle.std.proofs.Common.{subst}
use Rattle.lane_board.specs.Field.{Field}
use Rattle.srs.specs.Kick.{srs_table}
use Rattle.srs.specs.Rules.{table_of}
use Rattle.well.specs.Well.{filled}
use Rattle.well.specs.LockLaws.{LiesBelow}
use Rattle.moves.specs.Place.{IsPlace}
use Rattle.low_flood.proofs.CallerLemmas.{places_under}
use Rattle.place_sets.specs.States.{HasExactly, IsUnder, states_of}
use Rattle.reach.proofs.SameOffsets.{places_same}
use Rattle.reach.proofs.find.pivots_where.Goals as goal

pub returns : goal.returns
returns c = subst (λ (F : Field). HasExactly (IsPlace (table_of c.args.rules.now) F c.args.drop_mode) c.args.piece (states_of c.whole_places.result)) c.board-filled.ensures c.whole_places.ensures

pub returns-then-is_clear_from : goal.returns-then-is_clear_from
returns-then-is_clear_from c =
    let F = filled c.args.well.now in
    let clear = subst (λ (F : Field). LiesBelow F 8) c.board-filled.ensures (c.is_clear_from.ensures.0 c.if-is_clear_from.true) in
    places_same (table_of c.args.rules.now) srs_table F c.args.drop_mode c.args.piece (states_of c.low_places.result) (c.requires c.if-srs.true)
    (places_under F c.args.drop_mode c.args.piece (states_of c.low_places.result) clear
    (subst (λ (F : Field). HasExactly (IsUnder 24 (IsPlace srs_table F c.args.drop_mode)) c.args.piece (states_of c.low_places.result)) c.board-filled.ensures c.low_places.ensures))
