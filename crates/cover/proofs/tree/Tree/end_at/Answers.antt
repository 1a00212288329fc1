-- A list ends at the node, and all else stays.
use Rattle.std.proofs.Common.{arith, rules}
use Rattle.std.proofs.lemmas.Option.{slice_get_read}
use Rattle.cover.specs.Tree.{nodes_of}
use Rattle.cover.proofs.GrownLemmas.{ended}
use Rattle.cover.proofs.WayLemmas.{ends-tree}
use Rattle.cover.proofs.tree.Tree.end_at.Goals as goal

pub index-last-requires : goal.index-last-requires
unfolding nodes_of
index-last-requires c = omega (arith, c.requires, c.args.self.now.nodes.ok)

pub index_mut-requires : goal.index_mut-requires
unfolding nodes_of
index_mut-requires c = omega (arith, c.requires, c.args.self.now.nodes.ok)

pub invariant_of-self : goal.invariant_of-self
unfolding nodes_of
invariant_of-self c = search (rules, slice_get_read, ends-tree, ended)

pub returns : goal.returns
unfolding nodes_of
returns c = search (rules, slice_get_read, ended)
