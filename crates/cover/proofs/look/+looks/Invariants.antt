-- Each node lies behind the one above it.
use Rattle.std.proofs.Common.{◌+◌, ◌-◌, ◌*◌, length}
use Rattle.cover.specs.Tree.{nodes_of}
use Rattle.cover.proofs.look.+looks.Given as goal

abbrev pub decreases-look_at : goal.decreases-look_at
decreases-look_at l = 2 * (length (nodes_of l.tree.now) - l.at) + 1

abbrev pub decreases-look_below : goal.decreases-look_below
decreases-look_below l = 2 * (length (nodes_of l.tree.now) - l.at)
