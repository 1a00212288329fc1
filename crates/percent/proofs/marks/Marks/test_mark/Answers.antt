-- One part of the hands more.
use Rattle.std.proofs.Common.{◌≡◌, ◌≤◌, ◌<◌, ◌+◌, ◌-◌, ◌∙◌, ℕ, get_or, length, ap, subst, inl, inr, arith}
use Rattle.std.proofs.lemmas.Bool.{cases_lt}
use Rattle.percent.specs.Building.{IsUsedBy}
use Rattle.percent.proofs.BuildingLemmas.{part-at, part-length, tests-none, tests-part, used-stays}
use Rattle.percent.proofs.marks.Marks.test_mark.Goals as goal

pub loop-start-init : goal.loop-start-init
loop-start-init c = record {
  size = c.requires.used;
  used = λ k low. absurd (omega arith);
  tested = tests-none c.args.self.now c.args.mark.now.counts c.args.left c.args.own.now c.args.indexes.now c.args.may.now.items;
}

pub note-requires-clause-within : goal.note-requires-clause-within
note-requires-clause-within c = λ k below.
    let start = c.loop-start.start in
    let size : ℕ = c.min-end.result - start in
    let fits = c.loop-start.auto.start-fits in
    let within : start + size ≤ length c.args.own.now = omega (arith, c.min-end.ensures, c.saturating_add.ensures, c.loop-start-test.true, fits) in
    let long = part-length c.args.own.now start size within in
    let low : k < size = omega (arith, long, below) in
    let at = part-at c.args.indexes.now start size k low in
    let bound = c.requires.within (start + k) (omega (arith, within, low)) in
    let same = c.loop-start.invariant.tested.size in
    omega (arith, at, bound, same)

pub note-requires-clause-used : goal.note-requires-clause-used
note-requires-clause-used c = c.loop-start.invariant.size

pub loop-start-preserved : goal.loop-start-preserved
loop-start-preserved c =
    let marks = c.args.self.now in
    let mark = c.args.mark.now in
    let own = c.args.own.now in
    let list = mark.tilings.tilings.items in
    let start = c.loop-start.start in
    let size : ℕ = c.min-end.result - start in
    let fits = c.loop-start.auto.start-fits in
    let within : start + size ≤ length own = omega (arith, c.min-end.ensures, c.saturating_add.ensures, c.loop-start-test.true, fits) in
    record {
      size = c.note.ensures.stays.size ∙ c.loop-start.invariant.size;
      used = λ k low. elim (cases_lt k start) [
        | inl before ↦ used-stays marks c.args.left (get_or own k 0) list c.loop-start.used.items c.note.new.used.items c.note.ensures.stays (c.loop-start.invariant.used k before)
        | inr past ↦
            let few : k - start < size = omega (arith, low, past) in
            let here : start + (k - start) ≡ k = omega (arith, past) in
            let long = part-length own start size within in
            subst (IsUsedBy marks c.args.left list c.note.new.used.items) (part-at own start size (k - start) few ∙ ap (λ n. get_or own n 0) here)
            (c.note.ensures.used (k - start) (omega (arith, long, few)))
      ];
      tested = tests-part marks mark.counts c.args.left own c.args.indexes.now c.args.may.now.items c.loop-start.may.items c.note.new.may.items start size within c.note.ensures.tested c.loop-start.invariant.tested;
    }

pub returns-clause-tested : goal.returns-clause-tested
returns-clause-tested c = c.loop-start.invariant.tested

pub returns-clause-size : goal.returns-clause-size
returns-clause-size c = c.loop-start.invariant.size

pub returns-clause-used : goal.returns-clause-used
returns-clause-used c = λ k within. c.loop-start.invariant.used k (omega (arith, within, c.loop-start-test.false))
