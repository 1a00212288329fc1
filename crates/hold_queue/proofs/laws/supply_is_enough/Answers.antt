-- The goals of `supply_is_enough` that need lemmas.
use Rattle.hold_queue.proofs.SupplyLemmas.{supply-enough}
use Rattle.hold_queue.proofs.laws.supply_is_enough.Goals as goal

pub returns : goal.returns
returns c = supply-enough
