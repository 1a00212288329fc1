-- The goals of `QueueSet::follow` that need lemmas.
use Rattle.std.proofs.Common.{◌∙◌, arith}
use Rattle.hold_queue.proofs.SetFacts.{set-room}
use Rattle.hold_queue.proofs.set.QueueSet.follow.Goals as goal

pub drawn_next-due-requires : goal.drawn_next-due-requires
drawn_next-due-requires c = omega (arith, set-room c.args.before.now c.args.piece c.requires)

pub step-requires-clause-due : goal.step-requires-clause-due
step-requires-clause-due c = λ piece. c.new-step.ensures.due ∙ c.drawn_next-due.ensures piece

pub step-requires-2-clause-due : goal.step-requires-2-clause-due
step-requires-2-clause-due c = λ piece. c.in-Some.ensures.due ∙ c.drawn_next-due.ensures piece
