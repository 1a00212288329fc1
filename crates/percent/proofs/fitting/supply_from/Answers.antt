-- The entries behind the first are the supply.
use Rattle.percent.proofs.FittingLemmas.{entries-supply}
use Rattle.percent.proofs.fitting.supply_from.Goals as goal

pub returns : goal.returns
returns c = entries-supply c.args.counts.now
