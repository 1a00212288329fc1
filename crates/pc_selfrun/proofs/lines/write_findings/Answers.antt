-- The pieces make the lines.
use Rattle.std.proofs.Common.{◌∙◌, ◌++◌, subst}
use Rattle.std.specs.Prelude.{codes}
use Rattle.pc_outside.specs.declared.answers.Failed.{Failed}
use Rattle.pc_outside.specs.Writes.{WritesAll}
use Rattle.pc_selfrun.specs.Lines.{named_line, selfrun_form}
use Rattle.pc_selfrun.proofs.LineText.{five_lines}
use Rattle.pc_selfrun.proofs.lines.write_findings.Goals as goal

pub returns-clause-written : goal.returns-clause-written
unfolding selfrun_form
returns-clause-written g c =
    let pages = c.as_bytes.ensures.value ∙ c.format.ensures.text in
    let bytes = c.as_bytes-2.ensures.value ∙ c.format-2.ensures.text in
    let column = c.as_bytes-3.ensures.value ∙ c.format-3.ensures.text in
    let solutions = c.as_bytes-4.ensures.value ∙ c.format-4.ensures.text in
    subst (WritesAll {T = Unit {0}} {E = Failed} (g.O.Sink.written c.args.out.now) (g.O.Sink.written c.write_pieces.new.out) c.write_pieces.result)
    (five_lines _ _ _ _ _ ∙ (λ i. named_line (codes "pages") (pages i) ++ (named_line (codes "bytes") (bytes i) ++ (named_line (codes "same") (c.yes_or_no.ensures i) ++ (named_line (codes "column") (column i) ++ named_line (codes "solutions") (solutions i))))))
    c.write_pieces.ensures.written
