-- The top row of what is raised is the empty row 22.
use Rattle.std.proofs.Common.{◌∙◌, rules}
use Rattle.well.specs.RowsReading.{raised}
use Rattle.well.specs.Well.{filled}
use Rattle.well.proofs.WellFields.{filled-within, moved_is_raised}
use Rattle.well.proofs.well.Well.raised.Goals as goal

pub invariant_of-result : goal.invariant_of-result
unfolding filled raised
invariant_of-result c = search (rules, moved_is_raised, filled-within)

pub returns : goal.returns
unfolding filled
returns c = c.moved.ensures ∙ moved_is_raised (filled c.args.self.now) (filled-within c.args.self.now)
