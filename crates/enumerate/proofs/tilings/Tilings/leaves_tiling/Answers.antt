-- The answer is that of the test.
use Rattle.std.proofs.Common.{◌≡◌, ◌↔◌, true, subst}
use Rattle.lane_board.specs.Field.{Field}
use Rattle.prune.specs.Tiling.{Tiling}
use Rattle.empty_cells.specs.Empties.{all_but}
use Rattle.empty_cells.specs.SupplyWords.{supply_of}
use Rattle.empty_cells.proofs.CallerLemmas.{answer-from_right}
use Rattle.enumerate.proofs.tilings.Tilings.leaves_tiling.Goals as goal

pub returns : goal.returns
returns c = answer-from_right c.has_tiling_by.result _ 8 _ (subst (λ (G : Field). (c.has_tiling_by.result ≡ true) ↔ Tiling (all_but G) 8 (supply_of c.args.supply)) c.without.ensures c.has_tiling_by.ensures)
