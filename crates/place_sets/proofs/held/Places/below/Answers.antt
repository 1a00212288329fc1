-- The bounds of the pivots of each rotation.
use Rattle.std.proofs.Common.{refl}
use Rattle.place_sets.specs.Places.{piece_of}
use Rattle.place_sets.proofs.TakeLemmas.{below_held}
use Rattle.place_sets.proofs.held.Places.below.Goals as goal

pub returns-clause-piece : goal.returns-clause-piece
unfolding piece_of
returns-clause-piece c = refl

pub returns-clause-held : goal.returns-clause-held
returns-clause-held c = below_held c.args.self.now _ c.args.rows c.pivot_bounds.result refl c.pivot_bounds.ensures.bounds c.in_rows_below.ensures
