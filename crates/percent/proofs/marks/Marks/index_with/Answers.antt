-- The counts are those of the rest and the piece.
use Rattle.std.proofs.Common.{List, subst}
use Rattle.std.specs.Prelude.{IfSome}
use Rattle.percent.specs.declared.marks.Mark.{Mark}
use Rattle.percent.specs.Marks.{HasMarkAt}
use Rattle.percent.proofs.MarkLemmas.{mark-with}
use Rattle.percent.proofs.marks.Marks.index_with.Goals as goal

pub returns : goal.returns
returns c =
    let counts = c.counts_with.result in
    mark-with c.args.self.now.known.items c.args.piece c.args.left c.args.rest counts c.index_of.result
    (subst (λ (known : List Mark). IfSome c.index_of.result (λ index. HasMarkAt known index counts)) c.as_slice.ensures.value c.index_of.ensures)
    (record { size = c.counts_with.ensures.size; each = c.counts_with.ensures.each })
