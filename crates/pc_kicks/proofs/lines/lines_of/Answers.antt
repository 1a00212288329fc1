-- All pieces.
use Rattle.srs.specs.Rules.{table_of}
use Rattle.pc_kicks.proofs.LineLemmas.{lines_end, piece_more}
use Rattle.pc_kicks.proofs.lines.lines_of.Goals as goal

pub turns-preserved : goal.turns-preserved
turns-preserved c =
    piece_more c.push_turns.new.text.items c.turns.text.items c.entries.text.items (table_of c.args.rules.now) c.turns.piece-index
    c.turns-test.true c.turns.invariant (c.in_ok-push_turns.ensures {u = tt})

pub returns : goal.returns
returns c =
    lines_end c.turns.text.items c.entries.text.items (table_of c.args.rules.now) c.entries.piece-index c.turns.piece-index
    c.entries-test.false c.entries.auto.piece-index-end c.turns-test.false c.turns.auto.piece-index-end c.entries.invariant c.turns.invariant
