-- The spawn, where it is free.
use Rattle.std.proofs.Common.{rules}
use Rattle.place_sets.specs.States.{states_of}
use Rattle.whole_flood.proofs.StartLemmas.{started_by}
use Rattle.whole_flood.proofs.whole.started.Goals as goal

pub returns : goal.returns
unfolding states_of
returns c = search (rules, started_by)
