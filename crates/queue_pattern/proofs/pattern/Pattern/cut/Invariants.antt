-- What the loop of `Pattern::cut` keeps.
use Rattle.std.proofs.Common.{drop}
use Rattle.queue_pattern.specs.Pattern.{elements_of}
use Rattle.queue_pattern.proofs.CutLemmas.{IsCutSoFar}
use Rattle.queue_pattern.proofs.pattern.Pattern.cut.Given as goal

abbrev pub invariant-elements : goal.invariant-elements
invariant-elements l = IsCutSoFar (elements_of l.self) l.fn.pieces l.builder l.left (drop l.element-index l.element-items)
