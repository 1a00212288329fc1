-- What each tree keeps.
use Rattle.cover.specs.declared.tree.Tree.{Tree}
use Rattle.cover.specs.Nodes.{IsTree}
use Rattle.cover.specs.Tree.{nodes_of}

pub branches-of : (tree : Tree) → IsTree (nodes_of tree)
unfolding nodes_of
branches-of tree = tree.branches
