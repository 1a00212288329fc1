-- The byte of the piece.
use Rattle.std.proofs.Common.{◌-◌, ◌*◌, ◌/◌, ◌^◌, bit_and, ap, ◌∙◌}
use Rattle.empty_cells.proofs.SupplyWordLemmas.{masked_byte}
use Rattle.empty_cells.proofs.supply.SupplyWord.count_of.Goals as goal

pub returns : goal.returns
returns c = ap (λ code. bit_and (c.args.self.counts / 2 ^ (8 * (code - 1))) 255) c.code.ensures ∙ masked_byte c.args.self c.args.piece
