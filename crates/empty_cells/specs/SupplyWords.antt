-- A supply in one word.
use Rattle.std.specs.Int.{to_le_bytes, w64}
use Rattle.prune.specs.Tiling.{Supply, supply_in}
use Rattle.empty_cells.specs.declared.supply.SupplyWord.{SupplyWord}

-- the supply whose entries are the bytes of the word, from the lowest up
unfoldable pub supply_of : SupplyWord → Supply
supply_of word = supply_in (to_le_bytes w64 word.counts)
