use Rattle.well.specs.Well.{filled}
use Rattle.percent.specs.GoodTails.{is_good_tail}
use Rattle.percent.proofs.FittingLemmas.{Sifting}
use Rattle.percent.proofs.marks.Marks.buildable.Given as goal

abbrev pub invariant-loop-index : goal.invariant-loop-index
invariant-loop-index l =
    Sifting (is_good_tail l.tree l.fn.self.game (filled l.fn.self.position.well) l.fn.self.position.rows l.left) l.numbers l.likely l.index
