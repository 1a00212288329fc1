-- All rotations.
use Rattle.srs.specs.Rules.{table_of}
use Rattle.pc_kicks.proofs.LineLemmas.{entries_end}
use Rattle.pc_kicks.proofs.lines.push_entries.Goals as goal

pub returns : goal.returns
returns c =
    entries_end c.loop-rotation.text.items c.args.text.now.items (table_of c.args.rules.now) c.args.piece c.loop-rotation.rotation-index
    c.loop-rotation-test.false c.loop-rotation.auto.rotation-index-end c.loop-rotation.invariant
