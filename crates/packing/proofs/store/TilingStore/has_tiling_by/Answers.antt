-- The mirror shows a tiling where there is one.
use Rattle.std.proofs.Common.{◌≡◌, ◌↔◌, true, subst}
use Rattle.prune.specs.Tiling.{Supply, Tiling}
use Rattle.empty_cells.specs.Empties.{all_but, empty_cells}
use Rattle.empty_cells.specs.SupplyWords.{supply_of}
use Rattle.empty_cells.proofs.CallerLemmas.{both_tiled}
use Rattle.packing.proofs.store.TilingStore.has_tiling_by.Goals as goal

pub returns : goal.returns
returns c =
    let both = both_tiled (empty_cells c.args.cells.now) (empty_cells c.mirrored.result) c.mirrored.ensures (supply_of c.args.supply) in
    let exact = subst (λ (s : Supply). (c.decide-2.result ≡ true) ↔ Tiling (all_but (empty_cells c.mirrored.result)) 8 s) c.mirrored-2.ensures c.decide-2.ensures in
    (λ e. both.0 (exact.0 e), λ t. exact.1 (both.1 t))
