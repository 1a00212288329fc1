use Rattle.well.specs.Well.{filled}
use Rattle.tails.specs.declared.tree.TailTree.{TailTree}
use Rattle.tails.specs.Tails.{AreHandsAt}
use Rattle.percent.specs.declared.game.Game.{Game}
use Rattle.percent.specs.GoodTails.{is_good_tail}
use Rattle.percent.proofs.FittingLemmas.{Sifting}
use Rattle.percent.proofs.fitting.fitting.Given as goal

abbrev pub invariant-loop-index : goal.invariant-loop-index
invariant-loop-index l = (tree : TailTree) (game : Game) → AreHandsAt tree l.tails l.hands
    → Sifting (is_good_tail tree game (filled l.position.well) l.position.rows l.left) l.tails l.fit l.index
