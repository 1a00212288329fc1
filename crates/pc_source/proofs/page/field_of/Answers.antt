-- Each cell that isn't empty adds its place.
use Rattle.std.proofs.Common.{◌≡◌, ◌-◌, ◌/◌, ◌%◌, ◌∙◌, ap, arith}
use Rattle.std.specs.Prelude.{slice_index}
use Rattle.std.proofs.lemmas.Bool.{eq-eqb, ne_eqb}
use Rattle.lane_board.specs.Field.{with_cell}
use Rattle.well.specs.Well.{filled}
use Rattle.pc_source.proofs.PageCells.{cells_before, none_before, passes, adds, all_before}
use Rattle.pc_source.proofs.page.field_of.Goals as goal
use Rattle.pc_source.proofs.page.field_of.Goals.{then-cell-ne0, else-cell-ne0}

pub loop-index-init : goal.loop-index-init
loop-index-init c = c.empty-well.ensures ∙ none_before c.args.page.now

pub loop-index-preserved : goal.loop-index-preserved
loop-index-preserved c = elim c.if-cell-ne0.branch [
  | then-cell-ne0 w ↦
      ap filled w.well-is ∙ w.with-well.ensures ∙ ap (λ F. with_cell F (c.loop-index.index % 10) (22 - c.loop-index.index / 10)) c.loop-index.invariant
      ∙ adds c.args.page.now c.loop-index.index c.loop-index-test.true (ne_eqb (slice_index c.args.page.now.cells c.loop-index.index) 0 w.if-cell-ne0.true)
  | else-cell-ne0 w ↦
      ap filled w.well-is ∙ c.loop-index.invariant
      ∙ passes c.args.page.now c.loop-index.index c.loop-index-test.true (eq-eqb (slice_index c.args.page.now.cells c.loop-index.index) 0 w.if-cell-ne0.false)
]

pub returns : goal.returns
returns c =
    let last : c.loop-index.index ≡ 230 = omega (arith, c.loop-index-test.false, c.loop-index.auto.index-end) in
    c.loop-index.invariant ∙ ap (λ n. cells_before n c.args.page.now) last ∙ all_before c.args.page.now
