-- Each cell that is not left open adds its place.
use Rattle.std.proofs.Common.{◌≡◌, ◌/◌, ◌%◌, ◌∙◌, sym, ap, arith}
use Rattle.lane_board.specs.Field.{with_cell}
use Rattle.well.specs.Well.{filled}
use Rattle.pc_selfrun.proofs.ColumnField.{adds, all_before, cells_before, none_before, passes}
use Rattle.pc_selfrun.proofs.column.column_field.Goals as goal
use Rattle.pc_selfrun.proofs.column.column_field.Goals.{then-not-is_left_open, else-not-is_left_open}

pub cells-init : goal.cells-init
cells-init c = c.empty-well.ensures ∙ none_before c.args.column

pub cells-preserved : goal.cells-preserved
cells-preserved c = elim c.if-not-is_left_open.branch [
  | then-not-is_left_open w ↦
      ap filled w.well-is ∙ w.with-well.ensures ∙ ap (λ F. with_cell F (c.cells.index % 10) (c.cells.index / 10)) c.cells.invariant
      ∙ adds c.args.column c.cells.index c.cells-test.true (sym c.is_left_open.ensures ∙ w.if-not-is_left_open.true)
  | else-not-is_left_open w ↦
      ap filled w.well-is ∙ c.cells.invariant
      ∙ passes c.args.column c.cells.index c.cells-test.true (sym c.is_left_open.ensures ∙ w.if-not-is_left_open.false)
]

pub returns : goal.returns
returns c =
    let last : c.cells.index ≡ 40 = omega (arith, c.cells-test.false, c.cells.auto.index-end) in
    c.cells.invariant ∙ ap (λ n. cells_before n c.args.column) last ∙ all_before c.args.column
