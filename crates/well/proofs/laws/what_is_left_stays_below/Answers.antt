-- The laws are lemmas.
use Rattle.well.proofs.LockLemmas.{stays_below, removes_below}
use Rattle.well.proofs.laws.what_is_left_stays_below.Goals as goal

pub returns-clause-cells : goal.returns-clause-cells
returns-clause-cells c = stays_below

pub returns-clause-rows : goal.returns-clause-rows
returns-clause-rows c = removes_below
