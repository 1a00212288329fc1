-- The first node has nothing below it.
use Rattle.std.proofs.Common.{rules}
use Rattle.cover.specs.Tree.{nodes_of}
use Rattle.cover.proofs.GrownLemmas.{first-tree, first-spells}
use Rattle.cover.proofs.tree.Tree.new.Goals as goal

pub invariant_of-result : goal.invariant_of-result
invariant_of-result c = search (rules, (first-tree c.blank.result c.blank.ensures))

pub returns : goal.returns
unfolding nodes_of
returns c = search (rules, first-spells)
