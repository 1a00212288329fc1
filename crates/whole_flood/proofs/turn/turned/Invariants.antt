-- What the tests that are left make of the pivots that are left is what all tests make of all pivots.
use Rattle.std.proofs.Common.{◌≡◌, ◌-◌, drop}
use Rattle.lane_board.specs.Board.{field_of}
use Rattle.lane_board.specs.Field.{empty_field}
use Rattle.srs.specs.Rules.{table_of}
use Rattle.srs.specs.Kick.{kicks_of}
use Rattle.whole_flood.specs.Kicks.{turned_from}
use Rattle.whole_flood.proofs.turn.turned.Given as goal

abbrev pub invariant-loop-test : goal.invariant-loop-test
invariant-loop-test g l =
    turned_from (field_of l.free) g.row.N (drop (l.test - 1) (kicks_of (table_of l.rules) l.piece l.from l.to)) (field_of l.left) (field_of l.reached)
    ≡ turned_from (field_of l.free) g.row.N (kicks_of (table_of l.rules) l.piece l.from l.to) (field_of l.pivots) empty_field
