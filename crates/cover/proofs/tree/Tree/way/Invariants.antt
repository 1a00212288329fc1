-- The kinds so far lead to the node.
use Rattle.std.proofs.Common.{reverse, take}
use Rattle.cover.specs.Nodes.{HasGrown, LeadsTo}
use Rattle.cover.specs.Tree.{nodes_of}
use Rattle.cover.proofs.tree.Tree.way.Given as goal

abbrev pub invariant-loop-kind : goal.invariant-loop-kind
invariant-loop-kind l = HasGrown (nodes_of l.fn.self) (nodes_of l.self) × LeadsTo (nodes_of l.self) (reverse (take l.kind-index l.kinds)) l.node
