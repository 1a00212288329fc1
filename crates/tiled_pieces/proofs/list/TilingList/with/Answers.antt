-- A tiling is kept where it has the piece.
use Rattle.std.proofs.Common.{◌↔◌, ◌+◌, List, sym, subst, rules}
use Rattle.std.specs.List.{Contains}
use Rattle.empty_cells.specs.Empties.{empty_cells}
use Rattle.tiled_pieces.specs.declared.listed.ListedTiling.{ListedTiling}
use Rattle.tiled_pieces.specs.TilingLists.{HasPiece, LaidPiece}
use Rattle.tiled_pieces.proofs.ListedLemmas.{KeptWith, kept_all, kept_next, kept_passed}
use Rattle.tiled_pieces.proofs.list.TilingList.with.Goals as goal
use Rattle.tiled_pieces.proofs.list.TilingList.with.Goals.{then-has+in_ok-push, else-has}

pub loop-tiling-preserved : goal.loop-tiling-preserved
loop-tiling-preserved c =
    let list = c.deref-tiling-items.result.now in
    let laid : LaidPiece = record { piece = c.args.piece; cells = empty_cells c.args.cells.now } in
    let kept = c.loop-tiling.tilings.items in
    let index = c.loop-tiling.tiling-index in
    elim c.if-has.branch [
      | then-has+in_ok-push w ↦ subst (λ tilings. KeptWith list tilings.items laid (index + 1)) (sym w.tilings-is)
          (kept_next list kept w.push.new.self.items laid index c.tiling-item.result c.loop-tiling-test.true c.tiling-item.is c.loop-tiling.invariant (c.has.ensures.0 w.if-has.true) w.in_ok-push.ensures.items)
      | else-has w ↦ search (rules, kept_passed)
    ]

pub returns : goal.returns
returns c = λ tiling.
    let laid : LaidPiece = record { piece = c.args.piece; cells = empty_cells c.args.cells.now } in
    subst (λ (list : List ListedTiling). Contains c.loop-tiling.tilings.items tiling ↔ (Contains list tiling × HasPiece tiling laid)) c.deref-tiling-items.ensures.value
    (kept_all c.deref-tiling-items.result.now c.loop-tiling.tilings.items laid c.loop-tiling.tiling-index c.loop-tiling-test.false c.loop-tiling.invariant tiling)
