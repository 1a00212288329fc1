-- Each entry is that of the word.
use Rattle.std.proofs.Common.{◌≡◌, ℕ, ◌∷◌, [], rules}
use Rattle.std.proofs.Math.Path.{fun_ext}
use Rattle.srs.specs.declared.piece.Piece.TheVariants.{I, L, O, Z, T, J, S}
use Rattle.prune.specs.Tiling.{Supply, supply_in}
use Rattle.empty_cells.specs.SupplyWords.{supply_of}
use Rattle.empty_cells.proofs.supply.SupplyWord.entries.Goals as goal

each_entry : (supply : Supply) (i l o z t j s : ℕ) → i ≡ supply I → l ≡ supply L → o ≡ supply O → z ≡ supply Z → t ≡ supply T → j ≡ supply J → s ≡ supply S →
    supply_in (i ∷ l ∷ o ∷ z ∷ t ∷ j ∷ s ∷ []) ≡ supply
unfolding supply_in
each_entry supply i l o z t j s of_i of_l of_o of_z of_t of_j of_s = search (rules, fun_ext)

pub returns : goal.returns
returns c = each_entry (supply_of c.args.self) _ _ _ _ _ _ _ c.count_of.ensures c.count_of-2.ensures c.count_of-3.ensures c.count_of-4.ensures c.count_of-5.ensures c.count_of-6.ensures c.count_of-7.ensures
