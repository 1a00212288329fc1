-- One more slot.
use Rattle.std.proofs.Common.{◌≡◌, ◌<◌, length, slice_index, take, refl, sym, ap, subst, ◌∙◌, arith}
use Rattle.std.proofs.lemmas.Bool.{both_ways}
use Rattle.std.proofs.lemmas.List.{length-set, take_more_set}
use Rattle.empty_cells.specs.Empties.{cells_by_column}
use Rattle.lane_board.specs.Field.{Field}
use Rattle.srs.specs.Piece.{piece_code}
use Rattle.tiled_pieces.specs.TilingLists.{LaidPiece, laid_at, most_pieces}
use Rattle.tiled_pieces.specs.Orders.{HasThose, LiesIn}
use Rattle.tiled_pieces.proofs.PieceLemmas.{those_added, those_passed, those_start}
use Rattle.tiled_pieces.proofs.hands.those_in.Goals as goal
use Rattle.tiled_pieces.proofs.hands.those_in.Goals.{then-lies_in, else-lies_in}

pub loop-index-init : goal.loop-index-init
loop-index-init c = (omega arith, refl, those_start c.args.tiling.now (cells_by_column c.args.cells) c.args.weights.now)

pub loop-index-preserved : goal.loop-index-preserved
loop-index-preserved c =
    let tiling = c.args.tiling.now in
    let E = cells_by_column c.args.cells in
    let weights = c.args.weights.now in
    let before = c.loop-index.invariant in
    let pieces = take c.loop-index.count c.loop-index.pieces in
    let laid = c.piece_at-kind.ensures in
    let cells : cells_by_column c.bits-piece.result ≡ (laid_at tiling c.loop-index.index).cells =
    sym c.bits-piece.ensures.cells ∙ ap (λ (l : LaidPiece). l.cells) (sym laid) in
    elim c.if-lies_in.branch [
      | then-lies_in w ↦
          let room : c.loop-index.count < length c.loop-index.pieces = omega (arith, before.0, before.1, c.loop-index-test.true) in
          let code = w.new.ensures.weight ∙ ap (slice_index weights) (w.from.ensures ∙ w.code.ensures) ∙ ap (λ (l : LaidPiece). slice_index weights (piece_code l.piece)) (sym laid) in (
            omega (arith, w.count-is, before.0),
            ap length w.pieces-is ∙ length-set c.loop-index.pieces c.loop-index.count w.new.result ∙ before.1,
            rw (w.pieces-is, w.count-is, take_more_set c.loop-index.pieces c.loop-index.count w.new.result room)
                (those_added tiling E weights pieces c.loop-index.index before.2 w.new.result (omega (arith, c.loop-index-test.true)) (ap cells_by_column w.new.ensures.cells ∙ cells) code),
          )
      | else-lies_in w ↦ (
        omega (arith, w.count-is, before.0),
        ap length w.pieces-is ∙ before.1,
        rw (w.pieces-is, w.count-is)
            (those_passed tiling E weights pieces c.loop-index.index before.2
            (λ lies. both_ways _ w.if-lies_in.false (c.lies_in.ensures.1 (subst (λ (F : Field). LiesIn F E) (sym cells) lies)))),
      )
    ]

pub returns-clause-few : goal.returns-clause-few
returns-clause-few c = omega (arith, c.loop-index.invariant.0, c.loop-index.auto.index-end)

pub returns-clause-those : goal.returns-clause-those
returns-clause-those c =
    subst (HasThose c.args.tiling.now (cells_by_column c.args.cells) c.args.weights.now (take c.loop-index.count c.loop-index.pieces)) {x = c.loop-index.index} {y = most_pieces}
    (omega (arith, c.loop-index.auto.index-end, c.loop-index-test.false)) c.loop-index.invariant.2
