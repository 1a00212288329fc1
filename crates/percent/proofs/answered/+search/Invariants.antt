use Rattle.std.proofs.Common.{◌+◌, ◌-◌, ◌*◌}
use Rattle.well.specs.Well.{filled}
use Rattle.percent.specs.ListedHands.{HasHands, HasIndexes, IsAbout}
use Rattle.percent.proofs.GoodSteps.{Exploring, Trying}
use Rattle.percent.proofs.answered.+search.Given as goal

abbrev pub decreases-answered : goal.decreases-answered
decreases-answered g l = 5 * l.left + 1

abbrev pub decreases-searched : goal.decreases-searched
decreases-searched g l = 5 * l.left

abbrev pub decreases-explored : goal.decreases-explored
decreases-explored g l = 5 * l.left - 1

abbrev pub decreases-missed : goal.decreases-missed
decreases-missed g l = 5 * l.left - 2

abbrev pub decreases-tried : goal.decreases-tried
decreases-tried g l = 5 * l.left + 2

abbrev pub invariant-missed-loop-piece : goal.invariant-missed-loop-piece
invariant-missed-loop-piece g l =
    Exploring l.piece-items l.fn.kept.tree l.kept.tree l.fn.kept.game l.kept.game (filled l.marks.position.well) l.marks.position.rows (l.left - 1)
    l.fn.tails l.open l.fn.steps l.steps l.piece-index

abbrev pub invariant-tried-loop-child : goal.invariant-tried-loop-child
invariant-tried-loop-child g l =
    Trying l.fn.kept.tree l.kept.tree l.fn.kept.game l.kept.game l.left l.child-items l.rests l.asked.rests l.fn.steps l.steps l.child-index
    × IsAbout l.fn.piece l.left l.asked
    × HasIndexes l.marks l.asked
    × HasHands l.kept.tree l.asked
