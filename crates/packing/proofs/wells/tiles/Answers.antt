-- The set of empty cells has a tiling where the well has one.
use Rattle.std.proofs.Common.{◌↔◌, IsTrue, subst}
use Rattle.lane_board.specs.Field.{Field}
use Rattle.well.specs.Well.{filled}
use Rattle.prune.specs.Tiling.{supply_in, Tiling}
use Rattle.empty_cells.specs.Empties.{all_but}
use Rattle.empty_cells.proofs.CallerLemmas.{tiling_below}
use Rattle.packing.proofs.wells.tiles.Goals as goal

pub returns : goal.returns
returns c =
    let exact = subst (λ (E : Field). IsTrue c.has_tiling.result ↔ Tiling (all_but E) 8 (supply_in c.args.supply.now)) c.below.ensures c.has_tiling.ensures in
    let both = tiling_below (filled c.args.well.now) c.args.rows_left 8 (supply_in c.args.supply.now) c.requires in
    (λ e. both.0 (exact.0 e), λ t. exact.1 (both.1 t))
