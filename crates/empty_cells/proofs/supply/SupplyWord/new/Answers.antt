-- The bytes are the entries.
use Rattle.std.proofs.Common.{refl, ap, ◌∙◌}
use Rattle.std.proofs.lemmas.Nat.{le_bytes_8}
use Rattle.prune.specs.Tiling.{supply_in}
use Rattle.empty_cells.specs.SupplyWords.{supply_of}
use Rattle.empty_cells.proofs.SupplyWordLemmas.{bytes_small, seven_bytes}
use Rattle.empty_cells.proofs.supply.SupplyWord.new.Goals as goal

pub returns : goal.returns
unfolding supply_of
returns c = ap supply_in (le_bytes_8 _ _ refl (bytes_small c.args.supply.now c.fits-supply) c.from_le_bytes.ensures) ∙ seven_bytes c.args.supply.now
