-- The pieces of the tilings so far are added.
use Rattle.std.proofs.Common.{◌≡◌, take}
use Rattle.tiled_pieces.specs.Standing.{GrowsBy}
use Rattle.tiled_pieces.specs.TilingLists.{SomeHas}
use Rattle.tiled_pieces.proofs.standing.StandingPieces.add.Given as goal

abbrev pub invariant-loop-tiling : goal.invariant-loop-tiling
invariant-loop-tiling l =
    GrowsBy l.fn.self.pieces.items l.self.pieces.items l.number (λ cells. SomeHas (take l.tiling-index l.tiling-items) (record { piece = l.fn.self.piece; cells = cells }))
    × (l.self.piece ≡ l.fn.self.piece)
