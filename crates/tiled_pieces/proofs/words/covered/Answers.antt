-- Without a drop no cell is covered.
use Rattle.std.proofs.Common.{◌+◌, ◌*◌, ◌&&◌, sym, ap, ◌∙◌}
use Rattle.lane_board.proofs.CallerLemmas.{has_bit-zero}
use Rattle.empty_cells.specs.Empties.{cells_by_column}
use Rattle.tiled_pieces.specs.Words.{has_above}
use Rattle.tiled_pieces.proofs.words.covered.Goals as goal

pub returns-else-drops : goal.returns-else-drops
returns-else-drops c = λ x y column low. has_bit-zero (8 * x + y) ∙ sym (ap (λ b. b && has_above (cells_by_column c.args.cells) 8 x y) c.if-drops.false)
