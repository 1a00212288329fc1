-- The goals of `States::next` that need lemmas.
use Rattle.std.proofs.Common.{List, ℕ, sym, subst}
use Rattle.hold_queue.specs.States.{IsNextFamily, family_at}
use Rattle.hold_queue.proofs.StepLemmas.{each_held}
use Rattle.hold_queue.proofs.states.States.next.Goals as goal

pub returns : goal.returns
returns c = λ held elements start played stands due.
    let set = c.args.self.now in
    subst (λ (words : List ℕ). IsNextFamily elements set.hold start set.words played c.args.piece held (family_at words held))
    (sym c.states.ensures)
    (each_held (IsNextFamily elements set.hold start set.words played c.args.piece)
    c.next_empty_handed.result c.next_holding.result c.next_holding-2.result c.next_holding-3.result
    c.next_holding-4.result c.next_holding-5.result c.next_holding-6.result c.next_holding-7.result
    (c.next_empty_handed.ensures elements start played stands due) (c.next_holding.ensures elements start played stands due) (c.next_holding-2.ensures elements start played stands due) (c.next_holding-3.ensures elements start played stands due)
    (c.next_holding-4.ensures elements start played stands due) (c.next_holding-5.ensures elements start played stands due) (c.next_holding-6.ensures elements start played stands due) (c.next_holding-7.ensures elements start played stands due) held)
