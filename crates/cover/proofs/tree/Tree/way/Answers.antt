-- One kind more leads one node further.
use Rattle.std.proofs.Common.{◌≡◌, ◌∙◌, ◌+◌, ◌<◌, ◌∷◌, ◌++◌, [], length, sym, ap, subst, take, get_or, reverse, rules}
use Rattle.std.proofs.lemmas.List.{reverse-append, take_more}
use Rattle.srs.specs.declared.piece.Piece.TheVariants.{I}
use Rattle.cover.specs.Nodes.{LeadsTo}
use Rattle.cover.specs.Tree.{nodes_of}
use Rattle.cover.proofs.TreeFacts.{branches-of}
use Rattle.cover.proofs.WayLemmas.{grows-twice, leads-grown, leads-within}
use Rattle.cover.proofs.tree.Tree.way.Goals as goal

pub grown-requires : goal.grown-requires
grown-requires c = search (rules, leads-within, branches-of)

pub loop-kind-preserved : goal.loop-kind-preserved
loop-kind-preserved c =
    let i = c.loop-kind.kind-index in
    let kinds = c.args.kinds.now in
    let kind = get_or kinds i I in
    let new = nodes_of c.grown.new.self in
    let within : i < length kinds = c.loop-kind-test.true in
    let split : take (i + 1) kinds ≡ take i kinds ++ kind ∷ [] = take_more kinds i I within in
    let turned : reverse (take (i + 1) kinds) ≡ kind ∷ reverse (take i kinds) = ap reverse split ∙ reverse-append (take i kinds) (kind ∷ []) in
    let grown = c.in_ok-node.ensures in (
      grows-twice (nodes_of c.args.self.now) (nodes_of c.loop-kind.self) new c.loop-kind.invariant.0 grown.grows,
      subst (λ way. LeadsTo new way c.in_ok-node.node) (sym turned)
          (c.loop-kind.node, leads-grown (nodes_of c.loop-kind.self) new (reverse (take i kinds)) c.loop-kind.node grown.grows c.loop-kind.invariant.1, sym grown.below, grown.some),
    )
