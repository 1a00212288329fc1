-- A rest is left out where the placement stands in no tiling by the pieces of its hand.
use Rattle.std.proofs.Common.{◌≡◌, ◌<◌, ◌∙◌, ap, false, length, get_or, refl, subst, sym, arith}
use Rattle.std.specs.Prelude.{None}
use Rattle.hands.specs.Numbers.{has_number}
use Rattle.hands.proofs.CallerLemmas.{has-there}
use Rattle.tails.specs.TailSets.{has}
use Rattle.tails.specs.Tails.{AreHandsAt}
use Rattle.well.specs.Well.{filled}
use Rattle.percent.specs.GoodHands.{is_good}
use Rattle.percent.specs.GoodTails.{is_good_tail}
use Rattle.percent.specs.Marks.{AreIndexes, IsMarkOf}
use Rattle.percent.proofs.FittingLemmas.{sift-ends, sift-pass, sift-push, sift-starts}
use Rattle.percent.proofs.MarkLemmas.{bad-stand, mark-there}
use Rattle.percent.proofs.marks.Marks.likely.Goals as goal
use Rattle.percent.proofs.marks.Marks.likely.Goals.{then-may_stand+in_ok-insert, else-may_stand}

pub loop-index-init : goal.loop-index-init
loop-index-init c = λ tree have.
    let p = c.args.child.now.position in
    sift-starts (is_good_tail tree c.args.self.now.game (filled p.well) p.rows c.args.asked.now.left) c.as_slice-rests.result.now c.in_ok-likely.likely c.in_ok-likely.ensures

pub loop-index-preserved : goal.loop-index-preserved
unfolding is_good_tail
loop-index-preserved c =
    let p = c.args.child.now.position in
    let marks = c.args.self.now in
    let asked = c.args.asked.now in
    let tails = c.as_slice-rests.result.now in
    let index = c.loop-index.index in
    let within : index < length tails = omega (arith, c.loop-index-test.true) in
    elim c.if-may_stand.branch [
      | then-may_stand+in_ok-insert w ↦
          rw w.likely-is (λ tree have. sift-push (is_good_tail tree marks.game (filled p.well) p.rows asked.left) tails c.loop-index.likely _ index (c.loop-index.invariant tree have) within w.in_ok-insert.ensures.inserted)
      | else-may_stand w ↦
          let hand = get_or asked.hands.items index 0 in
          let in_hands : index < length asked.hands.items = let long = ap length c.as_slice-rests.ensures.value in omega (arith, within, long, asked.size) in
          let are : AreIndexes marks.known.items asked.piece asked.left asked.hands.items c.as_slice-indexes.result.now =
          subst (λ l. AreIndexes marks.known.items asked.piece asked.left asked.hands.items l) (sym c.as_slice-indexes.ensures.value) c.requires.asked.indexes in
          let mark = mark-there (IsMarkOf marks.known.items asked.piece asked.left hand) _ (get_or c.as_slice-indexes.result.now index None) (are.each index in_hands) (c.may_stand.ensures w.if-may_stand.false) in
          let bad : is_good marks.game (filled p.well) p.rows asked.left hand ≡ false =
          bad-stand marks c.args.child.now asked.piece asked.left hand mark.0 c.requires.child
          (c.requires.asked.rests.each hand (has-there asked.hands.items index hand in_hands refl)) mark.1 c.requires.standing mark.2.1 in
          rw w.likely-is (λ tree have.
          let at : AreHandsAt tree tails asked.hands.items = subst (λ l. AreHandsAt tree l asked.hands.items) (sym c.as_slice-rests.ensures.value) have in
          sift-pass (is_good_tail tree marks.game (filled p.well) p.rows asked.left) tails c.loop-index.likely index (c.loop-index.invariant tree have) within
          (ap (is_good marks.game (filled p.well) p.rows asked.left) (sym (at.each index within)) ∙ bad))
    ]

pub returns : goal.returns
returns c = λ tree have.
    let p = c.args.child.now.position in
    sift-ends (is_good_tail tree c.args.self.now.game (filled p.well) p.rows c.args.asked.now.left) (has c.args.asked.now.rests) c.as_slice-rests.result.now c.loop-index.likely c.loop-index.index
    (λ rest. ap (λ l. has_number l rest) c.as_slice-rests.ensures.value ∙ c.args.asked.now.listed rest) (omega (arith, c.loop-index-test.false)) (c.loop-index.invariant tree have)
