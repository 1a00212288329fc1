-- The bits are those of the four cells, each of them near the pivot.
use Rattle.std.proofs.Common.{◌∙◌, pos, ap, length}
use Rattle.srs.proofs.CallerLemmas.{shape_length}
use Rattle.empty_cells.specs.ShapeBits.{has_shape_bit}
use Rattle.empty_cells.proofs.PlacedBits.{four_bits}
use Rattle.empty_cells.proofs.placed.known_bits.Goals as goal

pub returns : goal.returns
returns c = λ k.
    four_bits c.shape.result (pos 0, pos 0) c.cell_bit.result c.cell_bit-2.result c.cell_bit-3.result c.cell_bit-4.result k (ap length c.shape.ensures.shape ∙ shape_length c.args.piece c.args.rotation)
    (c.cell_bit.ensures k) (c.cell_bit-2.ensures k) (c.cell_bit-3.ensures k) (c.cell_bit-4.ensures k)
    ∙ ap (λ cells. has_shape_bit cells k) c.shape.ensures.shape
