use Rattle.tails.specs.declared.tree.TailTree.{TailTree}
use Rattle.well.specs.Well.{filled}
use Rattle.percent.specs.GoodTails.{is_good_tail}
use Rattle.percent.specs.ListedHands.{HasHands}
use Rattle.percent.proofs.FittingLemmas.{Sifting}
use Rattle.percent.proofs.marks.Marks.likely.Given as goal

abbrev pub invariant-loop-index : goal.invariant-loop-index
invariant-loop-index l =
    (tree : TailTree) → HasHands tree l.asked → Sifting (is_good_tail tree l.self.game (filled l.child.position.well) l.child.position.rows l.asked.left) l.rests l.likely l.index
