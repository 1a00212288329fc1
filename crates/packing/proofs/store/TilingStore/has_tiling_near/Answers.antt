-- The word has the entries.
use Rattle.std.proofs.Common.{◌≡◌, ◌↔◌, true, refl, subst}
use Rattle.std.proofs.lemmas.Bool.{false≢true}
use Rattle.prune.specs.Tiling.{Supply, Tiling}
use Rattle.empty_cells.specs.Empties.{all_but, empty_cells}
use Rattle.packing.proofs.store.TilingStore.has_tiling_near.Goals as goal

pub returns-then-has_uneven_part : goal.returns-then-has_uneven_part
returns-then-has_uneven_part c = (λ e. absurd (false≢true e), λ tiling. absurd (c.if-has_uneven_part.ensures.none refl _ tiling))

pub returns : goal.returns
returns c = subst (λ (s : Supply). (c.has_tiling_by.result ≡ true) ↔ Tiling (all_but (empty_cells c.args.cells.now)) 8 s) c.new.ensures c.has_tiling_by.ensures
