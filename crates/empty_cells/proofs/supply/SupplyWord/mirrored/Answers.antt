-- The entries change places.
use Rattle.std.proofs.Common.{ap, ◌∙◌}
use Rattle.std.proofs.Math.Path.{fun_ext}
use Rattle.prune.specs.Mirror.{mirrored_supply}
use Rattle.prune.specs.Tiling.{supply_in}
use Rattle.empty_cells.specs.SupplyWords.{supply_of}
use Rattle.empty_cells.proofs.SupplyWordLemmas.{codes_changed}
use Rattle.empty_cells.proofs.supply.SupplyWord.mirrored.Goals as goal

pub returns : goal.returns
unfolding supply_of
returns c = c.new.ensures ∙ fun_ext (codes_changed c.to_le_bytes.result) ∙ ap (λ bytes. mirrored_supply (supply_in bytes)) c.to_le_bytes.ensures
