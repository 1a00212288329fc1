-- The marks so far.
use Rattle.std.proofs.Common.{◌≡◌}
use Rattle.percent.proofs.MarkLemmas.{AreListed}
use Rattle.percent.proofs.marks.Marks.listed_pieces.Given as goal

abbrev pub invariant-loop-index : goal.invariant-loop-index
invariant-loop-index l = (l.listed.piece ≡ l.fn.piece) × AreListed l.self.known.items l.wanted l.listed l.index
