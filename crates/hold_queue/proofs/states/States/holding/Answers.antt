-- The goals of `States::holding` that need lemmas.
use Rattle.hold_queue.proofs.HoldingLemmas.{holding-seven}
use Rattle.hold_queue.proofs.states.States.holding.Goals as goal

pub returns : goal.returns
returns c = λ elements start played stands due.
    let set = c.args.self.now in
    holding-seven elements set.hold start set.words played
    c.with_held-held_i.result c.with_held-held_l.result c.with_held-held_o.result c.with_held-held_z.result
    c.with_held-held_t.result c.with_held-held_j.result c.with_held-held_s.result
    c.or.result c.or-2.result c.or-four.result c.or-3.result c.or-4.result c.or-5.result
    (c.with_held-held_i.ensures elements start played stands due) (c.with_held-held_l.ensures elements start played stands due) (c.with_held-held_o.ensures elements start played stands due) (c.with_held-held_z.ensures elements start played stands due)
    (c.with_held-held_t.ensures elements start played stands due) (c.with_held-held_j.ensures elements start played stands due) (c.with_held-held_s.ensures elements start played stands due)
    (record { each = c.or.ensures }) (record { each = c.or-2.ensures }) (record { each = c.or-four.ensures })
    (record { each = c.or-3.ensures }) (record { each = c.or-4.ensures }) (record { each = c.or-5.ensures })
