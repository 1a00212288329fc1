-- The index of a kind is its code less one.
use Rattle.std.proofs.Common.{◌∙◌, ◌-◌, ap, refl}
use Rattle.cover.proofs.NodeLemmas.{child-with}
use Rattle.cover.proofs.node.Node.with.Goals as goal

pub returns : goal.returns
returns c = child-with c.args.self.now _ c.args.kind c.args.child c.from.result (c.from.ensures ∙ ap (λ n. n - 1) c.code.ensures) refl refl
