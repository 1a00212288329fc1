-- A tail is left out where the pieces of its hand fill nothing.
use Rattle.std.proofs.Common.{◌≡◌, ◌≤◌, ◌+◌, ◌∙◌, false, [], ◌∷◌, get_or, refl, sym, ap, arith}
use Rattle.srs.specs.declared.piece.Piece.{Piece}
use Rattle.srs.specs.declared.piece.Piece.TheVariants.{I, L, O, Z, T, J, S}
use Rattle.well.specs.Well.{filled}
use Rattle.prune.specs.Tiling.{supply_in}
use Rattle.hands.specs.Numbers.{has_number}
use Rattle.tails.specs.Tails.{hand_at}
use Rattle.percent.specs.GoodHands.{is_good}
use Rattle.percent.specs.GoodTails.{is_good_tail}
use Rattle.percent.proofs.FittingLemmas.{none-kept, refused, sift-ends, sift-pass, sift-push, sift-starts, unfit}
use Rattle.percent.proofs.ListedTails.{listed-hand}
use Rattle.percent.proofs.fitting.fitting.Goals as goal
use Rattle.percent.proofs.fitting.fitting.Goals.{then-may_fit+in_ok-insert, else-may_fit}

pub returns-then-cheap_no : goal.returns-then-cheap_no
unfolding supply_in is_good_tail
returns-then-cheap_no c = λ tree game are.
    let p = c.args.position.now in
    none-kept c.none-fit.result (has_number c.args.tails.now) (is_good_tail tree game (filled p.well) p.rows c.args.left)
    (λ tail _. refused game p c.args.left (hand_at tree tail) (c.args.left + 1) _ refl (omega (arith, c.requires.few)) many (c.cheap_no.ensures.none c.if-cheap_no.true))
    c.none-fit.ensures.none
  where
    many : (piece : Piece) → 21 ≤ supply_in (255 ∷ 255 ∷ 255 ∷ 255 ∷ 255 ∷ 255 ∷ 255 ∷ []) piece
    many I = omega arith
    many L = omega arith
    many O = omega arith
    many Z = omega arith
    many T = omega arith
    many J = omega arith
    many S = omega arith

pub returns-then-not-may_fit : goal.returns-then-not-may_fit
unfolding is_good_tail
returns-then-not-may_fit c = λ tree game are.
    let p = c.args.position.now in
    none-kept c.none-fit.result (has_number c.args.tails.now) (is_good_tail tree game (filled p.well) p.rows c.args.left)
    (λ tail there. unfit game p c.below-cells.result c.greatest_counts.result c.args.left (hand_at tree tail) (c.args.left + 1) refl c.below-cells.ensures
    (c.greatest_counts.ensures (hand_at tree tail) (listed-hand tree c.args.tails.now c.args.hands.now are tail there)) (c.may_fit.ensures c.if-not-may_fit.true))
    c.none-fit.ensures.none

pub loop-index-init : goal.loop-index-init
loop-index-init c = λ tree game are.
    let p = c.args.position.now in
    sift-starts (is_good_tail tree game (filled p.well) p.rows c.args.left) c.args.tails.now c.none-fit.result c.none-fit.ensures.none

pub loop-index-preserved : goal.loop-index-preserved
unfolding is_good_tail
loop-index-preserved c = λ tree game are.
    let p = c.args.position.now in
    let tails = c.args.tails.now in
    let hands = c.args.hands.now in
    let i = c.loop-index.index in
    let good = is_good_tail tree game (filled p.well) p.rows c.args.left in
    elim c.if-may_fit.branch [
      | then-may_fit+in_ok-insert w ↦
          rw w.fit-is (sift-push good tails c.loop-index.fit _ i (c.loop-index.invariant tree game are) c.loop-index-test.true w.in_ok-insert.ensures.inserted)
      | else-may_fit w ↦
          let bad : good (get_or tails i 0) ≡ false =
          ap (λ hand. is_good game (filled p.well) p.rows c.args.left hand) (sym (are.each i c.loop-index-test.true))
          ∙ unfit game p c.below-cells.result c.counts_of.result c.args.left (get_or hands i 0) (c.args.left + 1) refl c.below-cells.ensures
          (λ code few. let equal = c.counts_of.ensures.each code few in omega (arith, equal)) (c.may_fit-in-loop-index.ensures w.if-may_fit.false) in
          rw w.fit-is (sift-pass good tails c.loop-index.fit i (c.loop-index.invariant tree game are) c.loop-index-test.true bad)
    ]

pub returns : goal.returns
returns c = λ tree game are.
    let p = c.args.position.now in
    sift-ends (is_good_tail tree game (filled p.well) p.rows c.args.left) (has_number c.args.tails.now) c.args.tails.now c.loop-index.fit c.loop-index.index
    (λ _. refl) c.loop-index-test.false (c.loop-index.invariant tree game are)
