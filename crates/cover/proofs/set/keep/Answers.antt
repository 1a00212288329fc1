-- The tree has the lists that are kept.
use Rattle.std.proofs.Common.{map, rules}
use Rattle.cover.specs.Lists.{listed_kinds}
use Rattle.cover.specs.Tree.{nodes_of}
use Rattle.cover.proofs.KeepLemmas.{grown-of, kept-of}
use Rattle.cover.proofs.KindLemmas.{keys-kept}
use Rattle.cover.proofs.TreeFacts.{branches-of}
use Rattle.cover.proofs.WayLemmas.{leads-within}
use Rattle.cover.proofs.set.keep.Goals as goal

pub returns-in_err-node-clause-listed : goal.returns-in_err-node-clause-listed
returns-in_err-node-clause-listed c = search (rules, grown-of, branches-of)

pub returns-in_err-insert-clause-listed : goal.returns-in_err-insert-clause-listed
returns-in_err-insert-clause-listed c = search (rules, grown-of, branches-of)

pub end_at-requires : goal.end_at-requires
end_at-requires c = search (rules, leads-within, branches-of)

pub returns-clause-kept : goal.returns-clause-kept
returns-clause-kept c = search (rules, (keys-kept c.args.lists.now.keys c.args.kinds))

pub returns-clause-listed : goal.returns-clause-listed
returns-clause-listed c =
    search (rules, (keys-kept c.args.lists.now.keys c.args.kinds), (grown-of (nodes_of c.args.tree.now) (nodes_of c.way.new.self) (map listed_kinds c.args.lists.now.keys) (branches-of c.args.tree.now) c.in_ok-node.ensures.grows), (kept-of (nodes_of c.way.new.self) (nodes_of c.end_at.new.self) (map listed_kinds c.args.lists.now.keys) (map listed_kinds c.insert.new.self.keys) c.args.kinds.items c.in_ok-node.node (branches-of c.way.new.self)))
