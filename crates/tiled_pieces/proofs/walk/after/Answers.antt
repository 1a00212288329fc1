-- One more piece.
use Rattle.std.proofs.Common.{sym, ap₂, ◌+◌, ◌∙◌, arith}
use Rattle.lane_board.specs.Field.{difference}
use Rattle.empty_cells.specs.Empties.{cells_by_column}
use Rattle.tiled_pieces.proofs.WalkLemmas.{cells_is, field_without, left_start, left_with, left_without, number_start, number_with, number_without, weight_is}
use Rattle.tiled_pieces.proofs.walk.after.Goals as goal
use Rattle.tiled_pieces.proofs.walk.after.Goals.{then-has, else-has}

pub loop-index-init : goal.loop-index-init
loop-index-init c = (c.requires.small, sym (left_start c.args.pieces.now (cells_by_column c.args.cells) c.args.set), sym (number_start c.args.pieces.now c.args.set), omega arith)

pub loop-index-preserved : goal.loop-index-preserved
loop-index-preserved c =
    let pieces = c.args.pieces.now in
    let E = cells_by_column c.args.cells in
    let n = c.loop-index.index in
    let before = c.loop-index.invariant in
    elim c.if-has.branch [
      | then-has w ↦
          let piece = w.index-pieces-index.result in
          let is = w.index-pieces-index.is in
          let has = sym c.has.ensures ∙ w.if-has.true in
          let number = w.number-is ∙ ap₂ ◌+◌ before.2 (w.from-number.ensures ∙ sym (weight_is pieces n piece c.loop-index-test.true is)) ∙ sym (number_with pieces E c.args.set n has) in (
            rw w.left-is (w.without-left.ensures.small before.0),
            rw w.left-is (field_without c.loop-index.left piece.cells w.without-left.result w.without-left.ensures.bits
                ∙ ap₂ difference before.1 (sym (cells_is pieces n piece c.loop-index-test.true is)) ∙ sym (left_with pieces E c.args.set n has)),
            number,
            omega (arith, w.number-is, before.3, w.from-number.ensures, piece.light),
          )
      | else-has w ↦
          let none = sym c.has.ensures ∙ w.if-has.false in (
            rw w.left-is before.0,
            rw w.left-is (before.1 ∙ sym (left_without pieces E c.args.set n none)),
            w.number-is ∙ before.2 ∙ sym (number_without pieces E c.args.set n none),
            omega (arith, w.number-is, before.3),
          )
    ]
