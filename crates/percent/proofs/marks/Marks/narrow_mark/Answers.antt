-- The tilings of the mark that serve some hand are used.
use Rattle.std.proofs.Common.{◌<◌, ◌∙◌, length, ap, sym, subst, arith}
use Rattle.percent.specs.declared.game.Game.{Game}
use Rattle.percent.specs.declared.position.Position.{Position}
use Rattle.percent.specs.declared.marks.Mark.{Mark}
use Rattle.percent.specs.Building.{AreOwn, AreTested, HasOwn, IsUsedByAll}
use Rattle.percent.proofs.BuildingLemmas.{mark-is, narrowed-once, own-read, same-own, used-by-own}
use Rattle.percent.proofs.marks.Marks.narrow_mark.Goals as goal

pub test_mark-requires-clause-size : goal.test_mark-requires-clause-size
test_mark-requires-clause-size c =
    let left = c.args.left in
    let hands = c.args.hands.now in
    let first = c.index.result.now in
    let are = own-read first.counts left hands c.in_ok-own.own.items c.in_ok-own.indexes.items c.as_slice-2.result.now c.as_slice-3.result.now c.as_slice-2.ensures.value c.as_slice-3.ensures.value (c.in_ok-own.ensures.own left c.requires.counts) in
    are.size

pub test_mark-requires-clause-within : goal.test_mark-requires-clause-within
test_mark-requires-clause-within c = λ k below.
    let left = c.args.left in
    let hands = c.args.hands.now in
    let first = c.index.result.now in
    let are = own-read first.counts left hands c.in_ok-own.own.items c.in_ok-own.indexes.items c.as_slice-2.result.now c.as_slice-3.result.now c.as_slice-2.ensures.value c.as_slice-3.ensures.value (c.in_ok-own.ensures.own left c.requires.counts) in
    let low = (are.each k below).within in
    let size = c.requires.tested.size in
    omega (arith, low, size)

pub keep_used-requires-clause-index : goal.keep_used-requires-clause-index
keep_used-requires-clause-index c =
    let marks = c.args.self.now in
    let mid = c.narrow_at_once.new.self in
    let left = c.args.left in
    let hands = c.args.hands.now in
    let first = c.index.result.now in
    let step = narrowed-once marks mid left c.args.index hands c.in_ok-own.own.items c.as_slice.result.now first c.index.ensures c.as_slice.ensures.value (c.in_ok-own.ensures.all left c.requires.counts) c.requires.lists c.in_ok-narrow_at_once.ensures.narrowed in
    let same = step.size in
    let old = marks.known.ok in
    let new = mid.known.ok in
    omega (arith, c.requires.index, same, old, new)

pub keep_used-requires-clause-size : goal.keep_used-requires-clause-size
keep_used-requires-clause-size c = λ mark there.
    let mid = c.narrow_at_once.new.self in
    ap length c.as_slice-4.ensures.value ∙ c.test_mark.ensures.size
    ∙ ap (λ (m : Mark). length m.tilings.tilings.items) (mark-is mid.known.items c.args.index c.index-mark.result.now mark c.index-mark.ensures there)

pub returns-clause-narrowed : goal.returns-clause-narrowed
returns-clause-narrowed c =
    let marks = c.args.self.now in
    let mid = c.narrow_at_once.new.self in
    let left = c.args.left in
    let hands = c.args.hands.now in
    let first = c.index.result.now in
    let step = narrowed-once marks mid left c.args.index hands c.in_ok-own.own.items c.as_slice.result.now first c.index.ensures c.as_slice.ensures.value (c.in_ok-own.ensures.all left c.requires.counts) c.requires.lists c.in_ok-narrow_at_once.ensures.narrowed in
    let old = c.index-mark.result.now in
    let size = marks.known.ok in
    let within : c.args.index < length marks.known.items = omega (arith, c.requires.index, size) in
    let same = same-own marks mid c.args.index first old within step.size c.index.ensures c.index-mark.ensures c.in_ok-narrow_at_once.ensures.counts in
    let all = subst (HasOwn first.counts left hands) (sym c.as_slice-2.ensures.value) (c.in_ok-own.ensures.all left c.requires.counts) in
    let owned = subst (λ l. HasOwn l left hands c.as_slice-2.result.now) (sym same) all in
    let is_used : IsUsedByAll mid left hands old c.test_mark.new.used.items = used-by-own mid left hands c.as_slice-2.result.now old c.test_mark.new.used.items c.test_mark.ensures.size owned c.test_mark.ensures.used in
    let last = c.keep_used.ensures.narrowed left hands step.lists
    (λ mark there. subst (λ m. IsUsedByAll mid left hands m c.as_slice-4.result.now) (mark-is mid.known.items c.args.index old mark c.index-mark.ensures there)
    (subst (IsUsedByAll mid left hands old) (sym c.as_slice-4.ensures.value) is_used)) in
    record {
      position = last.position ∙ step.position;
      game = last.game ∙ step.game;
      size = last.size ∙ step.size;
      lists = last.lists;
    }

pub returns-clause-tested : goal.returns-clause-tested
returns-clause-tested c =
    let marks = c.args.self.now in
    let mid = c.narrow_at_once.new.self in
    let left = c.args.left in
    let hands = c.args.hands.now in
    let first = c.index.result.now in
    let step = narrowed-once marks mid left c.args.index hands c.in_ok-own.own.items c.as_slice.result.now first c.index.ensures c.as_slice.ensures.value (c.in_ok-own.ensures.all left c.requires.counts) c.requires.lists c.in_ok-narrow_at_once.ensures.narrowed in
    let old = c.index-mark.result.now in
    let size = marks.known.ok in
    let within : c.args.index < length marks.known.items = omega (arith, c.requires.index, size) in
    let same = same-own marks mid c.args.index first old within step.size c.index.ensures c.index-mark.ensures c.in_ok-narrow_at_once.ensures.counts in
    let are = own-read first.counts left hands c.in_ok-own.own.items c.in_ok-own.indexes.items c.as_slice-2.result.now c.as_slice-3.result.now c.as_slice-2.ensures.value c.as_slice-3.ensures.value (c.in_ok-own.ensures.own left c.requires.counts) in
    let Holds : Game → Position → Type 0 = λ game p. AreTested game p left hands c.args.may.now.items in
    let before = subst (λ p. Holds mid.game p) (sym step.position) (subst (λ game. Holds game marks.position) (sym step.game) c.requires.tested) in
    let after = c.test_mark.ensures.tested.each hands (subst (λ l. AreOwn l left hands c.as_slice-2.result.now c.as_slice-3.result.now) (sym same) are) step.lists before in
    subst (λ game. AreTested game marks.position left hands c.test_mark.new.may.items) step.game
    (subst (λ p. AreTested mid.game p left hands c.test_mark.new.may.items) step.position after)
