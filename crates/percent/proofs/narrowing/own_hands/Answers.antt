-- One hand more, if it has the counts.
use Rattle.std.proofs.Common.{◌<◌, [], get_or, length, subst, sym, ◌∙◌}
use Rattle.std.proofs.lemmas.Bool.{false≢true}
use Rattle.percent.specs.Marks.{HasCounts}
use Rattle.percent.proofs.BuildingLemmas.{own-ends, own-more, own-pass, same-counts}
use Rattle.percent.proofs.narrowing.own_hands.Goals as goal
use Rattle.percent.proofs.narrowing.own_hands.Goals.{then-are_same+in_ok-push+in_ok-push-2, else-are_same}

pub loop-index-preserved : goal.loop-index-preserved
loop-index-preserved c = λ left are.
    let hands = c.args.hands.now in
    let wanted = c.args.wanted.now in
    let index = c.loop-index.index in
    let within : index < length hands = c.loop-index-test.true in
    let state = c.loop-index.invariant left are in
    elim c.if-are_same.branch [
      | then-are_same+in_ok-push+in_ok-push-2 w ↦
          let counts = subst (λ l. HasCounts l left (get_or hands index 0)) (c.are_same.ensures.0 w.if-are_same.true) (are.each index within) in
          rw (w.own-is, w.indexes-is) (rw (w.in_ok-push.ensures.items, w.in_ok-push-2.ensures.items) (own-more wanted left hands c.loop-index.own.items c.loop-index.indexes.items index within counts state))
      | else-are_same w ↦
          rw (w.own-is, w.indexes-is)
          (own-pass wanted left hands c.loop-index.own.items c.loop-index.indexes.items index
          (λ has. false≢true (sym w.if-are_same.false ∙ c.are_same.ensures.1 (same-counts left (get_or hands index 0) (get_or c.args.counts.now index []) wanted (are.each index within) has))) state)
    ]

pub returns-clause-own : goal.returns-clause-own
returns-clause-own c = λ left are. (c.loop-index.invariant left are).those

pub returns-clause-all : goal.returns-clause-all
returns-clause-all c = λ left are. own-ends c.args.wanted.now left c.args.hands.now c.loop-index.own.items c.loop-index.indexes.items c.loop-index.index c.loop-index-test.false (c.loop-index.invariant left are)
