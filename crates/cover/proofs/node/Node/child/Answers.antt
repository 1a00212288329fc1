-- The index of a kind is its code less one.
use Rattle.std.proofs.Common.{rules}
use Rattle.cover.proofs.NodeLemmas.{child-read}
use Rattle.cover.proofs.node.Node.child.Goals as goal

pub returns : goal.returns
returns c = search (rules, child-read)
