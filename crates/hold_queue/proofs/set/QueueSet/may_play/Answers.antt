-- The goals of `QueueSet::may_play` that need lemmas.
use Rattle.std.proofs.Common.{◌∙◌, sym, ◌++◌, ◌∷◌, [], rules}
use Rattle.hold_queue.specs.QueueSet.{queues_in_play}
use Rattle.hold_queue.proofs.PermitsTest.{queues_permit-decides}
use Rattle.hold_queue.proofs.SetFacts.{set-each, set-permits}
use Rattle.hold_queue.proofs.set.QueueSet.may_play.Goals as goal

pub returns-clause-value : goal.returns-clause-value
returns-clause-value c = search (rules, set-each, set-permits)

pub returns-clause-permitted : goal.returns-clause-permitted
returns-clause-permitted c =
    let set = c.args.self.now in
    let decides = queues_permit-decides (queues_in_play set) ((queues_in_play set).played ++ c.args.piece ∷ []) in
    (λ may. decides.0 (sym (returns-clause-value c) ∙ may), λ permitted. returns-clause-value c ∙ decides.1 permitted)
