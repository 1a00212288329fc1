-- A tail is left out where no listed tiling serves its hand.
use Rattle.std.proofs.Common.{ap, ◌≡◌, ◌<◌, ◌∙◌, get_or, length, true, false, refl, subst, sym, arith}
use Rattle.std.proofs.lemmas.List.{get_or_default}
use Rattle.hands.specs.Numbers.{has_number}
use Rattle.tails.specs.TailSets.{has}
use Rattle.tails.specs.Tails.{AreHandsAt}
use Rattle.well.specs.Well.{filled}
use Rattle.percent.specs.GoodHands.{is_good}
use Rattle.percent.specs.GoodTails.{is_good_tail}
use Rattle.percent.proofs.FittingLemmas.{sift-ends, sift-pass, sift-push, sift-starts}
use Rattle.percent.proofs.ListedTails.{listed-hand, listed-tail}
use Rattle.percent.proofs.RestLemmas.{marks-of-hands, marks-of-tails}
use Rattle.percent.proofs.marks.Marks.buildable.Goals as goal
use Rattle.percent.proofs.marks.Marks.buildable.Goals.{then-index+in_ok-insert, else-index}

pub loop-index-init : goal.loop-index-init
loop-index-init c =
    let marks = c.args.self.now in
    sift-starts (is_good_tail c.args.tree.now marks.game (filled marks.position.well) marks.position.rows c.args.left) c.as_slice-numbers.result.now c.in_ok-likely.likely c.in_ok-likely.ensures

pub narrow-requires-clause-lists : goal.narrow-requires-clause-lists
narrow-requires-clause-lists c =
    let numbers = c.as_slice-numbers.result.now in
    let hands = c.as_slice.result.now in
    let are : AreHandsAt c.args.tree.now numbers hands = subst (AreHandsAt c.args.tree.now numbers) (sym c.as_slice.ensures.value) c.in_ok-hands.ensures in
    marks-of-hands c.args.tree.now c.args.self.now c.args.left (has c.args.tails.now) (has_number hands)
    (λ hand there.
    let at = listed-tail c.args.tree.now numbers hands are hand there in
    (at.0, sym (ap (λ l. has_number l at.0) c.as_slice-numbers.ensures.value ∙ c.in_ok-all.ensures at.0) ∙ at.1, at.2))
    c.requires.lists

pub loop-index-preserved : goal.loop-index-preserved
unfolding is_good_tail
loop-index-preserved c =
    let marks = c.args.self.now in
    let tree = c.args.tree.now in
    let numbers = c.as_slice-numbers.result.now in
    let hands = c.as_slice.result.now in
    let index = c.loop-index.index in
    let may = c.in_ok-may.may.items in
    let within : index < length numbers = omega (arith, c.loop-index-test.true) in
    elim c.if-index.branch [
      | then-index+in_ok-insert w ↦
          rw w.likely-is (sift-push (is_good_tail tree marks.game (filled marks.position.well) marks.position.rows c.args.left) numbers c.loop-index.likely _ index c.loop-index.invariant within w.in_ok-insert.ensures.inserted)
      | else-index w ↦
          let are : AreHandsAt tree numbers hands = subst (AreHandsAt tree numbers) (sym c.as_slice.ensures.value) c.in_ok-hands.ensures in
          let in_hands : index < length hands = let size = are.size in omega (arith, within, size) in
          let none : get_or may index true ≡ false = get_or_default may index true c.index.result.now (omega (arith, in_hands, c.in_ok-may.ensures.tested.size)) ∙ sym c.index.ensures ∙ w.if-index.false in
          rw w.likely-is
          (sift-pass (is_good_tail tree marks.game (filled marks.position.well) marks.position.rows c.args.left) numbers c.loop-index.likely index c.loop-index.invariant within
          (ap (is_good marks.game (filled marks.position.well) marks.position.rows c.args.left) (sym (are.each index within)) ∙ c.in_ok-may.ensures.tested.each index in_hands none))
    ]

pub returns-clause-lists : goal.returns-clause-lists
returns-clause-lists c =
    let marks = c.args.self.now in
    let tree = c.args.tree.now in
    let numbers = c.as_slice-numbers.result.now in
    let hands = c.as_slice.result.now in
    let are : AreHandsAt tree numbers hands = subst (AreHandsAt tree numbers) (sym c.as_slice.ensures.value) c.in_ok-hands.ensures in
    let sifted = sift-ends (is_good_tail tree marks.game (filled marks.position.well) marks.position.rows c.args.left) (has_number numbers) numbers c.loop-index.likely c.loop-index.index (λ tail. refl) (omega (arith, c.loop-index-test.false)) c.loop-index.invariant in
    marks-of-tails tree c.narrow.new.self c.args.left (has c.loop-index.likely) (has_number hands)
    (λ tail there. c.requires.lists.are_tails tail (sym (ap (λ l. has_number l tail) c.as_slice-numbers.ensures.value ∙ c.in_ok-all.ensures tail) ∙ sifted.fewer tail there))
    (λ tail there. listed-hand tree numbers hands are tail (sifted.fewer tail there)) c.in_ok-may.ensures.narrowed.lists
