-- Each entry is at most so many.
use Rattle.std.proofs.Common.{min, ◌∙◌}
use Rattle.srs.specs.declared.piece.Piece.TheVariants.{I, L, O, Z, T, J, S}
use Rattle.prune.specs.Tiling.{supply_in}
use Rattle.empty_cells.specs.SupplyWords.{supply_of}
use Rattle.empty_cells.proofs.supply.SupplyWord.at_most.Goals as goal

pub returns : goal.returns
unfolding supply_in supply_of
returns c I = (λ i. c.new.ensures i I) ∙ c.min.ensures ∙ (λ i. min c.args.most (supply_in (c.to_le_bytes.ensures i) I))
returns c L = (λ i. c.new.ensures i L) ∙ c.min-2.ensures ∙ (λ i. min c.args.most (supply_in (c.to_le_bytes.ensures i) L))
returns c O = (λ i. c.new.ensures i O) ∙ c.min-3.ensures ∙ (λ i. min c.args.most (supply_in (c.to_le_bytes.ensures i) O))
returns c Z = (λ i. c.new.ensures i Z) ∙ c.min-4.ensures ∙ (λ i. min c.args.most (supply_in (c.to_le_bytes.ensures i) Z))
returns c T = (λ i. c.new.ensures i T) ∙ c.min-5.ensures ∙ (λ i. min c.args.most (supply_in (c.to_le_bytes.ensures i) T))
returns c J = (λ i. c.new.ensures i J) ∙ c.min-6.ensures ∙ (λ i. min c.args.most (supply_in (c.to_le_bytes.ensures i) J))
returns c S = (λ i. c.new.ensures i S) ∙ c.min-7.ensures ∙ (λ i. min c.args.most (supply_in (c.to_le_bytes.ensures i) S))
