-- The pieces at the slots so far are added.
use Rattle.std.proofs.Common.{◌≡◌}
use Rattle.tiled_pieces.specs.Standing.{GrowsBy}
use Rattle.tiled_pieces.proofs.StandingLemmas.{HasBefore}
use Rattle.tiled_pieces.proofs.standing.StandingPieces.add_tiling.Given as goal

abbrev pub invariant-loop-index : goal.invariant-loop-index
invariant-loop-index l =
    GrowsBy l.fn.self.pieces.items l.self.pieces.items l.number (λ cells. HasBefore l.tiling (record { piece = l.fn.self.piece; cells = cells }) l.index)
    × (l.self.piece ≡ l.fn.self.piece)
