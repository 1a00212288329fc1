-- The keys so far, and those by which the marks lead back from here, are those of the key word.
use Rattle.std.proofs.Common.{◌-◌, length}
use Rattle.srs.specs.Cells.{HasPivotInWell}
use Rattle.key_path.specs.Marks.{Traced}
use Rattle.key_path.proofs.MarkLemmas.{IsPassed}
use Rattle.key_path.proofs.marks.Marks.word_to.Given as goal

abbrev pub invariant-loop-from : goal.invariant-loop-from
invariant-loop-from l = HasPivotInWell l.reached × ((traced : Traced l.self.marks l.state) → IsPassed l.self.marks l.reached l.word.items traced.keys)

abbrev pub decreases-loop-from : goal.decreases-loop-from
decreases-loop-from l = 920 - length l.word.items
