-- The piece is not in the set, its number allows the hand, and it fits.
use Rattle.std.proofs.Common.{◌+◌, slice_index, sym, ap, ◌∙◌, arith}
use Rattle.std.proofs.lemmas.Bool.{both_ways}
use Rattle.lane_board.specs.Lanes.{has_bit}
use Rattle.lane_board.proofs.CallerLemmas.{has_bit-zero}
use Rattle.srs.specs.declared.piece.Piece.TheVariants.{I}
use Rattle.empty_cells.specs.Empties.{cells_by_column}
use Rattle.tiled_pieces.proofs.WalkLemmas.{carried_bit, carried_fits, carried_from}
use Rattle.tiled_pieces.proofs.walk.carried.Goals as goal

pub returns-then-has : goal.returns-then-has
returns-then-has c = λ bit.
    ((λ has. absurd (both_ways _ (has_bit-zero bit) has)), (λ is. absurd (both_ways _ is.unset (sym c.has.ensures ∙ c.if-has.true))))

pub overflow_add-number : goal.overflow_add-number
overflow_add-number c = omega (arith, c.requires.number, c.from.ensures, c.index-pieces-index.result.light)

pub returns-then-bits-eq0 : goal.returns-then-bits-eq0
returns-then-bits-eq0 c = λ bit. (
  (λ has. absurd (both_ways _ (has_bit-zero bit) has)),
  (λ is. ap (λ n. has_bit n bit) (sym c.if-bits-eq0.true)
      ∙ carried_bit c.args.pieces.now c.args.left.now.drops c.args.allowed.now c.args.hands c.args.set (cells_by_column c.args.left.now.cells) c.args.number c.args.index bit
      c.index-pieces-index.result c.allowed_at.result c.requires.index c.index-pieces-index.is
      (c.allowed_at.ensures ∙ ap (λ w. slice_index c.args.allowed.now (c.args.number + w)) c.from.ensures) is),
)

pub returns-then-not-fits : goal.returns-then-not-fits
returns-then-not-fits c = λ bit. (
  (λ has. absurd (both_ways _ (has_bit-zero bit) has)),
  (λ is. absurd (both_ways _ c.if-not-fits.true ((c.fits.ensures I).1
      (carried_fits c.args.pieces.now c.args.left.now.drops c.args.allowed.now c.args.hands c.args.set (cells_by_column c.args.left.now.cells) c.args.number c.args.index bit
      c.index-pieces-index.result c.allowed_at.result c.requires.index c.index-pieces-index.is
      (c.allowed_at.ensures ∙ ap (λ w. slice_index c.args.allowed.now (c.args.number + w)) c.from.ensures) is)))),
)

pub returns : goal.returns
returns c = λ bit.
    let at = c.allowed_at.ensures ∙ ap (λ w. slice_index c.args.allowed.now (c.args.number + w)) c.from.ensures in (
      (λ has. carried_from c.args.pieces.now c.args.left.now.drops c.args.allowed.now c.args.hands c.args.set (cells_by_column c.args.left.now.cells) c.args.number c.args.index bit
          c.index-pieces-index.result c.allowed_at.result c.requires.index c.index-pieces-index.is at (sym c.has.ensures ∙ c.if-has.false) ((c.fits.ensures I).0 c.if-not-fits.false) has),
      (λ is. carried_bit c.args.pieces.now c.args.left.now.drops c.args.allowed.now c.args.hands c.args.set (cells_by_column c.args.left.now.cells) c.args.number c.args.index bit
          c.index-pieces-index.result c.allowed_at.result c.requires.index c.index-pieces-index.is at is),
    )
