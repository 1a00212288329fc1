-- The goals of `States::next_empty_handed` that need lemmas.
use Rattle.std.proofs.Common.{◌∙◌, sym, subst, None, rules}
use Rattle.hold_queue.specs.States.{IsNextFamily}
use Rattle.hold_queue.proofs.StepLemmas.{next_avoided, next_none_more, next_none_last, IsUnion, drawn_at}
use Rattle.hold_queue.proofs.states.States.next_empty_handed.Goals as goal

pub returns-in-Avoided : goal.returns-in-Avoided
returns-in-Avoided c = search (rules, drawn_at, next_avoided)

pub returns-in-Some : goal.returns-in-Some
returns-in-Some c = λ elements start played stands due.
    let set = c.args.self.now in
    let drawn = drawn_at c.draw-plain.ensures due.empty_handed c.family_of.ensures in
    subst (λ hold. IsNextFamily elements hold start set.words played c.args.piece None c.draw-plain.result) (sym c.in_default.is)
    (next_none_more elements start set.words played stands c.args.piece c.draw-plain.result c.in-Some.field-0
    (sym (due.holding c.args.piece) ∙ c.in-Some.is) drawn)

pub returns : goal.returns
returns c = λ elements start played stands due.
    let set = c.args.self.now in
    let drawn = drawn_at c.draw-plain.ensures due.empty_handed c.family_of.ensures in
    subst (λ hold. IsNextFamily elements hold start set.words played c.args.piece None c.or.result) (sym c.in_default.is)
    (next_none_last elements start set.words played stands c.args.piece c.draw-plain.result c.or.result
    (sym (due.holding c.args.piece) ∙ c.in_default-holding.is) drawn
    (subst (λ f. IsUnion c.draw-plain.result f c.or.result) c.family_of-2.ensures (record { each = c.or.ensures })))
