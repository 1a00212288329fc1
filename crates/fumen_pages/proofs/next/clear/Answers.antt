-- One more row is cleared, and then all are.
use Rattle.std.proofs.Common.{List, ℕ, ◌+◌, sym, ap, ◌∙◌, subst, arith}
use Rattle.fumen_pages.specs.Cells.{missing_count}
use Rattle.fumen_pages.specs.Next.{is_full_page_row}
use Rattle.fumen_pages.proofs.RowLaws.{IsDone}
use Rattle.fumen_pages.proofs.NextLaws.{cleared_starts, cleared_kept, cleared_gone, cleared_all, cleared_so_far, looked_at}
use Rattle.fumen_pages.proofs.next.clear.Goals as goal
use Rattle.fumen_pages.proofs.next.clear.Goals.{then-is_full, else-is_full}

pub loop-i-init : goal.loop-i-init
loop-i-init c = cleared_starts c.args.dialect c.args.cells.now

pub loop-i-preserved : goal.loop-i-preserved
loop-i-preserved c =
    let dialect = c.args.dialect in
    let old = c.args.cells.now in
    let cells = c.loop-i.cells in
    let i = c.loop-i.i in
    let done : List ℕ → Type 0 = λ p. IsDone old p (missing_count dialect) (i + 1) (cleared_so_far dialect old (i + 1)) in
    elim c.if-is_full.branch [
      | then-is_full w ↦
          let row = looked_at dialect old cells i _ _ (cleared_so_far dialect old i) c.told-cells (omega arith) (omega arith) (omega arith) c.loop-i.invariant in
          subst done (sym w.cells-is) (cleared_gone dialect old cells w.lower.new.rows i _ _ c.told-cells (omega arith) (omega arith) (omega arith) (sym (w.if-is_full.ensures ∙ ap is_full_page_row row)) w.lower.ensures c.loop-i.invariant)
      | else-is_full w ↦
          let row = looked_at dialect old cells i _ _ (cleared_so_far dialect old i) c.told-cells (omega arith) (omega arith) (omega arith) c.loop-i.invariant in
          subst done (sym w.cells-is) (cleared_kept dialect old cells i c.told-cells (omega arith) (sym (w.if-is_full.ensures ∙ ap is_full_page_row row)) c.loop-i.invariant)
    ]

pub returns-clause-rows : goal.returns-clause-rows
returns-clause-rows c = (cleared_all c.args.dialect c.args.cells.now c.loop-i.cells c.loop-i.i c.told-cells (omega arith) c.loop-i.invariant).0

pub returns-clause-missing : goal.returns-clause-missing
returns-clause-missing c = (cleared_all c.args.dialect c.args.cells.now c.loop-i.cells c.loop-i.i c.told-cells (omega arith) c.loop-i.invariant).1
