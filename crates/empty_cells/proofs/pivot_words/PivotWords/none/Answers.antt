-- No bit is set.
use Rattle.std.proofs.Common.{◌+◌, ◌*◌, ◌/◌}
use Rattle.srs.specs.Rotation.{rotation_index}
use Rattle.empty_cells.specs.PivotWords.{has_placement}
use Rattle.empty_cells.proofs.PivotLemmas.{no_pivot, no_words}
use Rattle.empty_cells.proofs.pivot_words.PivotWords.none.Goals as goal

pub returns : goal.returns
unfolding has_placement
returns c = λ q. no_pivot _ q.rotation q.x q.y (no_words (2 * rotation_index q.rotation + q.y / 4))
