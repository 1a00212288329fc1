-- A cell of a row that is not gone.
use Rattle.std.proofs.Common.{◌+◌, ◌*◌, not, ◌&&◌, ap, ap₂, sym, ◌∙◌}
use Rattle.empty_cells.proofs.CallerLemmas.{by_column_at}
use Rattle.tiled_pieces.specs.Words.{is_filled}
use Rattle.tiled_pieces.proofs.words.filled.Goals as goal

pub returns : goal.returns
unfolding is_filled
returns c = λ x y column low. c.without.ensures.bits (8 * x + y)
    ∙ ap₂ ◌&&◌ (c.in_rows.ensures x y column low ∙ c.requires y low) (ap not (sym (by_column_at c.args.cells x y low)))
