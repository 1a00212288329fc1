-- The pieces that lie in the set are those that an order may have.
use Rattle.std.proofs.Common.{take, sym, subst}
use Rattle.lane_board.specs.Field.{Field}
use Rattle.empty_cells.specs.Empties.{cells_by_column}
use Rattle.tiled_pieces.specs.Served.{IsServed}
use Rattle.tiled_pieces.proofs.OrderLemmas.{served_both}
use Rattle.tiled_pieces.proofs.hands.served_hands.Goals as goal

pub returns : goal.returns
returns c = λ bit.
    let pieces = take c.those_in-count.result.1 c.those_in-count.result.0 in
    let both = served_both c.args.tiling.now c.args.weights.now c.args.allowed.now bit c.args.drops pieces (cells_by_column c.bits-cells.result) c.those_in-count.ensures.those in
    let same = sym c.bits-cells.ensures.cells in
    let found = c.served.ensures bit in (
      (λ has. ((found.0 has).0, subst (λ (E : Field). IsServed c.args.tiling.now E c.args.drops c.args.weights.now c.args.allowed.now bit) same (both.0 (found.0 has).1))),
      (λ served. found.1 (served.0, both.1 (subst (λ (E : Field). IsServed c.args.tiling.now E c.args.drops c.args.weights.now c.args.allowed.now bit) (sym same) served.1))),
    )
