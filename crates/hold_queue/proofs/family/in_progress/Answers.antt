-- The goals of `in_progress` that need lemmas.
use Rattle.std.proofs.Common.{◌≤◌, subst}
use Rattle.queue_pattern.specs.Pattern.{elements_of}
use Rattle.hold_queue.proofs.InProgress.{in_progress-here, in_progress-later, in_progress-end}
use Rattle.hold_queue.proofs.family.in_progress.Goals as goal

pub returns-then-left-element : goal.returns-then-left-element
returns-then-left-element c = in_progress-here (elements_of c.args.pattern.now) c.loop-index.index c.loop-index.left c.args.drawn c.element-element.result c.element-element.ensures c.loop-index.invariant c.if-left-element.true

pub loop-index-preserved : goal.loop-index-preserved
loop-index-preserved c = in_progress-later (elements_of c.args.pattern.now) c.loop-index.index c.loop-index.left c.args.drawn c.element-element.result c.element-element.ensures c.loop-index.invariant c.if-left-element.false

pub returns : goal.returns
returns c = in_progress-end (elements_of c.args.pattern.now) c.loop-index.index c.loop-index.left c.args.drawn (subst (λ n. n ≤ c.loop-index.index) c.elements-index-end.ensures.number c.loop-index-test.false) c.loop-index.invariant
