-- The goals of `States::with_held` that need lemmas.
use Rattle.std.proofs.Common.{sym, subst, rules}
use Rattle.hold_queue.specs.States.{IsHeldFamily}
use Rattle.hold_queue.proofs.HoldingLemmas.{held-avoided, held-allowed}
use Rattle.hold_queue.proofs.StepLemmas.{IsUnion, drawn_at}
use Rattle.hold_queue.proofs.states.States.with_held.Goals as goal

pub returns-in-Avoided : goal.returns-in-Avoided
returns-in-Avoided c = search (rules, held-avoided)

pub returns : goal.returns
returns c = λ elements start played stands due.
    let set = c.args.self.now in
    subst (λ hold. IsHeldFamily elements hold start set.words played c.args.first c.or.result) (sym c.in_default.is)
    (held-allowed elements start set.words played stands c.args.first c.draw.result c.or.result
    (drawn_at c.draw.ensures due.empty_handed c.family_of.ensures)
    (subst (λ f. IsUnion f c.draw.result c.or.result) c.family_of-held.ensures (record { each = c.or.ensures })))
