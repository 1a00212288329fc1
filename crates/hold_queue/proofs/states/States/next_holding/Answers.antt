-- The goals of `States::next_holding` that need lemmas.
use Rattle.std.proofs.Common.{sym, subst, Some, rules}
use Rattle.hold_queue.specs.States.{IsNextFamily, IsHeldFamily}
use Rattle.hold_queue.proofs.StepLemmas.{next_avoided, next_some, drawn_at, drawn_by_draw}
use Rattle.hold_queue.proofs.states.States.next_holding.Goals as goal

pub returns-in-Avoided : goal.returns-in-Avoided
returns-in-Avoided c = λ elements start played stands due.
    let drawn = drawn_at c.draw.ensures (due.holding c.args.first) c.family_of.ensures in
    search (rules, next_avoided)

pub returns : goal.returns
returns c = λ elements start played stands due.
    let set = c.args.self.now in
    subst (λ hold. IsNextFamily elements hold start set.words played c.args.piece (Some c.args.first) c.or.result) (sym c.in_default.is)
    (next_some elements start set.words played stands c.args.piece c.args.first
    c.with_held.result c.draw-second.result c.draw-exchange.result c.or.result
    (subst (λ hold. IsHeldFamily elements hold start set.words played c.args.first c.with_held.result) c.in_default.is (c.with_held.ensures elements start played stands due))
    (drawn_by_draw c.draw-second.ensures (due.holding c.args.first))
    (drawn_at c.draw-exchange.ensures (due.holding c.args.piece) c.family_of-2.ensures)
    (record { each = c.or.ensures }))
