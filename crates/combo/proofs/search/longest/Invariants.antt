-- The longest run so far is the first of those that are as long.
use Rattle.std.proofs.Common.{◌-◌, ◌≤◌}
use Rattle.reach.specs.FloodRules.{flood_table}
use Rattle.well.specs.Well.{filled}
use Rattle.hold_queue.specs.Hand.{pieces_at}
use Rattle.combo.specs.First.{IsFirst, IsTakenRun}
use Rattle.combo.specs.Searched.{HaveShorterRuns}
use Rattle.combo.proofs.search.longest.Given as goal

abbrev pub invariant-loop-run : goal.invariant-loop-run
invariant-loop-run g l =
    IsFirst (IsTakenRun (flood_table l.play.rules) l.fn.drop_mode (filled l.well) l.fn.hold (pieces_at l.queue.items l.hand)) (l.count - 1) l.longest.items
    × (1 ≤ l.count) × (l.count ≤ 24)
    × HaveShorterRuns (flood_table l.play.rules) l.fn.drop_mode l.fn.hold l.queue.items l.store
    × (l.fn.steps ≤ l.steps)

abbrev pub decreases-loop-run : goal.decreases-loop-run
decreases-loop-run g l = 24 - l.count
