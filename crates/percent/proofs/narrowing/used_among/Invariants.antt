use Rattle.percent.proofs.BuildingLemmas.{HasUsed}
use Rattle.percent.proofs.narrowing.used_among.Given as goal

abbrev pub invariant-loop-index : goal.invariant-loop-index
invariant-loop-index l = HasUsed l.list.tilings.items l.used l.tilings.items l.index
