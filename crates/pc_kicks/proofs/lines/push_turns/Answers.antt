-- Both turns of each rotation.
use Rattle.srs.specs.Rules.{table_of}
use Rattle.pc_kicks.proofs.LineLemmas.{both_more, turns_end}
use Rattle.pc_kicks.proofs.lines.push_turns.Goals as goal

pub loop-from-preserved : goal.loop-from-preserved
loop-from-preserved c =
    both_more c.push_turn-in-loop-from.new.text.items c.push_turn.new.text.items c.loop-from.text.items c.args.text.now.items (table_of c.args.rules.now) c.args.piece
    c.loop-from.from-index c.clockwise.result c.anticlockwise.result c.loop-from-test.true c.loop-from.invariant c.clockwise.ensures c.anticlockwise.ensures
    (c.in_ok-push_turn.ensures {u = tt}) (c.in_ok-push_turn-2.ensures {u = tt})

pub returns : goal.returns
returns c =
    turns_end c.loop-from.text.items c.args.text.now.items (table_of c.args.rules.now) c.args.piece c.loop-from.from-index
    c.loop-from-test.false c.loop-from.auto.from-index-end c.loop-from.invariant
