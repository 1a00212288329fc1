-- The rest of the sequence clears what is left exactly where the whole clears the field.
use Rattle.std.proofs.Common.{drop}
use Rattle.srs.specs.Rules.{table_of}
use Rattle.well.specs.Well.{filled}
use Rattle.cover.proofs.PlayLemmas.{IsPlayed}
use Rattle.cover.proofs.play.plays_by.Given as goal

abbrev pub invariant-placements : goal.invariant-placements
invariant-placements g l =
    IsPlayed (table_of l.problem.rules) l.problem.drop_mode (filled l.problem.well) l.problem.height l.sequence.items (filled l.well) l.rows (drop l.placement-index l.placement-items) l.fn.steps l.steps l.placement-index
