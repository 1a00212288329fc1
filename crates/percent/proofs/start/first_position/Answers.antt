-- The cells of a fit problem lie below its height, and no row is full.
use Rattle.std.proofs.Common.{arith}
use Rattle.well.specs.Well.{filled}
use Rattle.problem.proofs.CallerLemmas.{filled-low}
use Rattle.percent.proofs.BuiltLemmas.{none-full}
use Rattle.percent.proofs.start.first_position.Goals as goal

pub invariant_of-result : goal.invariant_of-result
invariant_of-result c =
    let fit = c.requires in
    let low = filled-low c.args.problem.now.well c.args.problem.now.height (omega (arith, fit.field.fit.low)) fit.field.below in record {
      few = fit.field.fit.low;
      below = record { none = low.none };
      open_rows = none-full (filled c.args.problem.now.well) c.args.problem.now.height fit.field.fit.low fit.field.open_rows;
    }
