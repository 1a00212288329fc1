-- One tiling after the other.
use Rattle.std.proofs.Common.{◌+◌, List, subst, take, ◌∙◌}
use Rattle.tiled_pieces.specs.declared.listed.ListedTiling.{ListedTiling}
use Rattle.tiled_pieces.specs.Standing.{GrowsBy}
use Rattle.tiled_pieces.specs.TilingLists.{HasPiece, SomeHas}
use Rattle.tiled_pieces.proofs.StandingLemmas.{grows_on, grows_same, some_all, some_more}
use Rattle.tiled_pieces.proofs.standing.StandingPieces.add.Goals as goal

pub loop-tiling-preserved : goal.loop-tiling-preserved
loop-tiling-preserved c =
    let piece = c.args.self.now.piece in
    let list = c.deref-tiling-items.result.now in
    let index = c.loop-tiling.tiling-index in
    let tiling = c.tiling-item.result in (
      grows_on c.args.self.now.pieces.items c.loop-tiling.self.pieces.items c.add_tiling.new.self.pieces.items c.args.number
          (λ cells. SomeHas (take index list) (record { piece = piece; cells = cells })) (λ cells. HasPiece tiling (record { piece = piece; cells = cells })) (λ cells. SomeHas (take (index + 1) list) (record { piece = piece; cells = cells }))
          c.loop-tiling.invariant.0
          (subst (λ p. GrowsBy c.loop-tiling.self.pieces.items c.add_tiling.new.self.pieces.items c.args.number (λ cells. HasPiece tiling (record { piece = p; cells = cells }))) c.loop-tiling.invariant.1 c.in_ok-add_tiling.ensures.added)
          (λ cells. some_more list index tiling (record { piece = piece; cells = cells }) c.loop-tiling-test.true c.tiling-item.is),
      c.in_ok-add_tiling.ensures.kind ∙ c.loop-tiling.invariant.1,
    )

pub returns-clause-added : goal.returns-clause-added
returns-clause-added c =
    let piece = c.args.self.now.piece in
    let list = c.deref-tiling-items.result.now in
    let index = c.loop-tiling.tiling-index in
    subst (λ (all : List ListedTiling). GrowsBy c.args.self.now.pieces.items c.loop-tiling.self.pieces.items c.args.number (λ cells. SomeHas all (record { piece = piece; cells = cells }))) c.deref-tiling-items.ensures.value
    (grows_same c.args.self.now.pieces.items c.loop-tiling.self.pieces.items c.args.number (λ cells. SomeHas (take index list) (record { piece = piece; cells = cells })) (λ cells. SomeHas list (record { piece = piece; cells = cells }))
    c.loop-tiling.invariant.0 (λ cells. some_all list index (record { piece = piece; cells = cells }) c.loop-tiling-test.false))
