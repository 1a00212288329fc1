-- What contracts see of a tree: its nodes.
use Rattle.std.specs.Prelude.{List}
use Rattle.cover.specs.declared.node.Node.{Node}
use Rattle.cover.specs.declared.tree.Tree.{Tree}

unfoldable pub nodes_of : Tree → List Node
nodes_of tree = tree.nodes.items
