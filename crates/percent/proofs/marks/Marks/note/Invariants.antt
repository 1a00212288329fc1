use Rattle.percent.specs.Building.{Tests}
use Rattle.percent.proofs.marks.Marks.note.Given as goal

abbrev pub invariant-loop-k : goal.invariant-loop-k
invariant-loop-k l = Tests l.fn.self l.fn.mark.counts l.fn.left l.own l.indexes l.fn.may.items l.may.items
