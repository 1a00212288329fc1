-- One index is pushed for each rest.
use Rattle.percent.proofs.MarkLemmas.{indexes-start}
use Rattle.percent.proofs.marks.Marks.asked_of.Goals as goal

pub loop-index-init : goal.loop-index-init
loop-index-init c =
    indexes-start c.args.self.now.known.items c.args.asked.now.piece c.args.asked.now.left c.in_ok-hands.hands.items c.in_ok-indexes.indexes.items c.in_ok-indexes.ensures.items
