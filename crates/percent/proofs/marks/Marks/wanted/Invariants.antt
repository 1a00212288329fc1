-- The indexes before this one are known, and their bits are set.
use Rattle.percent.proofs.MarkLemmas.{AreSet}
use Rattle.percent.proofs.marks.Marks.wanted.Given as goal

abbrev pub invariant-loop-index : goal.invariant-loop-index
invariant-loop-index l = AreSet l.index-items l.wanted l.index-index
