-- One node more is below, and all else stays.
use Rattle.std.proofs.Common.{◌≡◌, ◌∙◌, length, sym, arith, rules}
use Rattle.cover.specs.Tree.{nodes_of}
use Rattle.cover.proofs.GrownLemmas.{grown-grows, grown-pushed, grown-tree, grows-same}
use Rattle.cover.proofs.tree.Tree.grown.Goals as goal

pub returns-in_err-push-clause-grows : goal.returns-in_err-push-clause-grows
unfolding nodes_of
returns-in_err-push-clause-grows c = search (rules, grows-same)

pub index-requires : goal.index-requires
unfolding nodes_of
index-requires c = search rules

pub index_mut-requires : goal.index_mut-requires
unfolding nodes_of
index_mut-requires c = search rules

pub invariant_of-self-2 : goal.invariant_of-self-2
unfolding nodes_of
invariant_of-self-2 c =
    search (rules, (grown-pushed c.args.self.now.nodes.items c.push.new.self.items c.args.at c.args.kind c.len-node.result c.blank.result c.index.result.now c.with.result c.in_ok-push.ensures.items c.requires c.blank.ensures c.index.ensures), (grown-tree c.args.self.now.nodes.items))

pub returns-clause-grows : goal.returns-clause-grows
unfolding nodes_of
returns-clause-grows c =
    let items = c.args.self.now.nodes.items in
    let count : c.len-node.result ≡ length items = omega (arith, c.len-node.ensures, c.args.self.now.nodes.ok) in
    let grown = grown-pushed items c.push.new.self.items c.args.at c.args.kind c.len-node.result c.blank.result c.index.result.now c.with.result
    c.in_ok-push.ensures.items c.requires c.blank.ensures c.index.ensures count c.with.ensures in
    grown-grows items _ c.args.at c.args.kind c.args.self.now.branches c.requires (sym c.below-known.ensures ∙ c.if-known-ne0.false) grown

pub returns-clause-below : goal.returns-clause-below
unfolding nodes_of
returns-clause-below c = search (rules, grown-pushed)
