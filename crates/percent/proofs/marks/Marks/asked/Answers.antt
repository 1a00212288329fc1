-- One index is pushed for each rest.
use Rattle.percent.proofs.MarkLemmas.{indexes-start}
use Rattle.percent.proofs.marks.Marks.asked.Goals as goal

pub loop-hand-init : goal.loop-hand-init
loop-hand-init c =
    indexes-start c.args.self.now.known.items c.args.piece c.args.left c.deref-hand-items.result.now c.in_ok-indexes.indexes.items c.in_ok-indexes.ensures.items
