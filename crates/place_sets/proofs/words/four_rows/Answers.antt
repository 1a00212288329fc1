-- Each row in its sixteen bits.
use Rattle.std.proofs.Common.{ap, ◌∙◌}
use Rattle.lane_board.specs.Board.{field_of}
use Rattle.lane_board.specs.Lanes.{has_bit}
use Rattle.lane_board.proofs.CallerLemmas.{field_of-within}
use Rattle.place_sets.proofs.WordLemmas.{four_rows-is}
use Rattle.place_sets.proofs.words.four_rows.Goals as goal

pub returns : goal.returns
returns g c =
    four_rows-is (field_of c.args.board.now) g.row.N c.args.row c.from.result c.from-2.result c.from-3.result c.from-4.result (record { inside = field_of-within c.args.board.now })
    (ap has_bit c.from.ensures ∙ c.row.ensures) (ap has_bit c.from-2.ensures ∙ c.row-2.ensures) (ap has_bit c.from-3.ensures ∙ c.row-3.ensures) (ap has_bit c.from-4.ensures ∙ c.row-4.ensures)
