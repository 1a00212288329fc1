-- The goals of `QueueSet::after` that need lemmas.
use Rattle.std.proofs.Common.{◌∙◌, arith}
use Rattle.hold_queue.proofs.SetFacts.{set-room}
use Rattle.hold_queue.proofs.set.QueueSet.after.Goals as goal

pub drawn_next-requires : goal.drawn_next-requires
drawn_next-requires c = omega (arith, set-room c.args.self.now c.args.piece c.requires)

pub step-requires-clause-due : goal.step-requires-clause-due
step-requires-clause-due c = λ piece. c.new.ensures.due ∙ c.drawn_next.ensures piece
