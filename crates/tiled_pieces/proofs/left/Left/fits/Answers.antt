-- Each test by itself, and all four.
use Rattle.std.proofs.Common.{ℕ, bit_and, refl, arith}
use Rattle.std.proofs.lemmas.Bool.{eq-eqb, eqb-true, false≢true}
use Rattle.srs.specs.declared.piece.Piece.{Piece}
use Rattle.empty_cells.specs.Empties.{cells_by_column}
use Rattle.tiled_pieces.specs.TilingLists.{LaidPiece}
use Rattle.tiled_pieces.proofs.FitTests.{fits_from, none_between, none_covered, none_outside, some_floor}
use Rattle.tiled_pieces.proofs.left.Left.fits.Goals as goal

abbrev piece_of : Piece → ℕ → LaidPiece
piece_of kind cells = record { piece = kind; cells = cells_by_column cells }

pub returns-then-without-ne0 : goal.returns-then-without-ne0
returns-then-without-ne0 c = λ kind.
    let left = c.args.self.now in
    let piece = c.args.piece.now in (
      (λ e. absurd (false≢true e)),
      (λ fits. absurd (c.if-without-ne0.true (none_outside left.cells piece.cells left.drops (piece_of kind piece.cells) refl left.in_columns piece.in_columns c.without.result c.without.ensures.bits fits))),
    )

pub returns-then-piece-self-eq0 : goal.returns-then-piece-self-eq0
returns-then-piece-self-eq0 c = λ kind.
    let left = c.args.self.now in
    let piece = c.args.piece.now in (
      (λ e. absurd (false≢true e)),
      (λ fits. absurd (some_floor left.cells piece.cells left.drops (piece_of kind piece.cells) refl left.in_columns piece.in_columns left.floors left.has_floors fits c.if-piece-self-eq0.true)),
    )

pub returns-then-piece-self-ne0 : goal.returns-then-piece-self-ne0
returns-then-piece-self-ne0 c = λ kind.
    let left = c.args.self.now in
    let piece = c.args.piece.now in (
      (λ e. absurd (false≢true e)),
      (λ fits. absurd (c.if-piece-self-ne0.true (none_between left.cells piece.cells left.drops (piece_of kind piece.cells) refl left.in_columns piece.in_columns piece.between left.rows (omega arith) piece.rows left.has_rows fits))),
    )

pub returns : goal.returns
returns c = λ kind.
    let left = c.args.self.now in
    let piece = c.args.piece.now in
    let laid = piece_of kind piece.cells in (
      (λ is. fits_from left.cells piece.cells left.drops laid refl left.in_columns piece.in_columns c.without.result left.floors piece.between left.rows left.covered
          c.without.ensures.bits left.has_floors piece.rows left.has_rows left.has_covered
          c.if-without-ne0.false c.if-piece-self-eq0.false c.if-piece-self-ne0.false (eqb-true (bit_and piece.cells left.covered) 0 is)),
      (λ fits. eq-eqb (bit_and piece.cells left.covered) 0 (none_covered left.cells piece.cells left.drops laid refl left.in_columns piece.in_columns left.covered left.has_covered fits)),
    )
