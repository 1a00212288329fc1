-- One index after the other.
use Rattle.std.proofs.Common.{◌≡◌, ◌+◌, ap, sym, subst, ◌∙◌, rules}
use Rattle.lane_board.specs.Field.{Field}
use Rattle.srs.specs.declared.piece.Piece.{Piece}
use Rattle.empty_cells.specs.Empties.{empty_cells}
use Rattle.tiled_pieces.specs.declared.standing.StandingPieces.{StandingPieces}
use Rattle.tiled_pieces.specs.Standing.{GrowsBy}
use Rattle.tiled_pieces.specs.TilingLists.{laid_at}
use Rattle.tiled_pieces.proofs.StandingLemmas.{HasBefore, before_here, before_other, grows_on, grows_same}
use Rattle.tiled_pieces.proofs.standing.StandingPieces.add_tiling.Goals as goal
use Rattle.tiled_pieces.proofs.standing.StandingPieces.add_tiling.Goals.{in-Some+in_ok-add_piece, in_default}

pub loop-index-preserved : goal.loop-index-preserved
loop-index-preserved c =
    let piece = c.args.self.now.piece in
    let tiling = c.args.tiling.now in
    let index = c.loop-index.index in
    let before = c.args.self.now.pieces.items in
    let Had = λ (cells : Field). HasBefore tiling (record { piece = piece; cells = cells }) index in
    let Has = λ (cells : Field). HasBefore tiling (record { piece = piece; cells = cells }) (index + 1) in
    elim c.match-cells_at.branch [
      | in-Some+in_ok-add_piece w ↦
          let known = empty_cells w.in-Some.cells in
          let at : laid_at tiling index ≡ record { piece = piece; cells = known } = w.in-Some.ensures ∙ ap (λ (p : Piece). record { piece = p; cells = known }) c.loop-index.invariant.1 in
          subst (λ (self : StandingPieces). GrowsBy before self.pieces.items c.args.number Has × (self.piece ≡ piece)) (sym w.self-is) (
            grows_on before c.loop-index.self.pieces.items _ c.args.number Had (λ cells. cells ≡ known) Has c.loop-index.invariant.0 w.in_ok-add_piece.ensures.added (before_here tiling piece index known at),
            w.in_ok-add_piece.ensures.kind ∙ c.loop-index.invariant.1,
          )
      | in_default w ↦ search (rules, grows_same, before_other)
    ]
