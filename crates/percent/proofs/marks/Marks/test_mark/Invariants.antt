-- The hands before this one are tested.
use Rattle.std.proofs.Common.{◌≡◌, ◌-◌, ℕ, ◌<◌, get_or, length}
use Rattle.percent.specs.Building.{IsUsedBy, Tests}
use Rattle.percent.proofs.marks.Marks.test_mark.Given as goal

abbrev pub invariant-loop-start : goal.invariant-loop-start
invariant-loop-start l = record {
  size : length l.used.items ≡ length l.mark.tilings.tilings.items;
  used : (k : ℕ) → k < l.start → IsUsedBy l.self l.left l.mark.tilings.tilings.items l.used.items (get_or l.own k 0);
  tested : Tests l.self l.mark.counts l.left l.own l.indexes l.fn.may.items l.may.items;
}

abbrev pub decreases-loop-start : goal.decreases-loop-start
decreases-loop-start l = length l.own - l.start
