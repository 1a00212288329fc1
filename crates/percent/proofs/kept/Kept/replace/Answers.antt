-- The answers of the slot go, and those of the entry come.
use Rattle.std.proofs.Common.{All, sym, subst, ap, arith}
use Rattle.fact_table.proofs.CallerLemmas.{facts-put, none-put}
use Rattle.percent.specs.Kept.{blocks_in, IsTrueSlot}
use Rattle.percent.proofs.KeptLemmas.{one-of-all, replaced}
use Rattle.percent.proofs.kept.Kept.replace.Goals as goal

pub overflow_sub-self : goal.overflow_sub-self
overflow_sub-self c =
    let kept = c.args.self.now in
    let few = one-of-all kept.slots c.args.hash c.in-Some.before.now c.in-Some.ensures in
    omega (arith, few, kept.counted, c.block_count.ensures)

pub invariant_of-self : goal.invariant_of-self
invariant_of-self c =
    let kept = c.args.self.now in
    let few = one-of-all kept.slots c.args.hash c.in-Some.before.now c.in-Some.ensures in
    let change = replaced kept.slots c.args.hash c.args.slot c.in-Some.before.now c.in-Some.ensures in
    let now = ap blocks_in c.put.ensures in
    record {
      same_hold = kept.same_hold;
      floods = kept.floods;
      are_true = subst (All (IsTrueSlot kept.tree kept.game)) (sym c.put.ensures) (facts-put (IsTrueSlot kept.tree kept.game) kept.slots c.args.hash c.args.slot c.requires.holds kept.are_true);
      counted = omega (arith, few, change, now, kept.counted, c.block_count.ensures, c.block_count-in-Some.ensures);
      bounded = omega (arith, few, kept.counted, kept.bounded, c.requires.room, c.block_count.ensures, c.block_count-in-Some.ensures);
    }

pub returns-in_default-clause-slots : goal.returns-in_default-clause-slots
returns-in_default-clause-slots c = none-put c.args.self.now.slots c.args.hash c.args.slot c.in_default.ensures
