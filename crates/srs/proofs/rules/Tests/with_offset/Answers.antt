-- There are still five offsets, and all are small.
use Rattle.std.proofs.Common.{rules}
use Rattle.srs.proofs.BooleanLemmas.{list_all-set}
use Rattle.srs.proofs.rules.Tests.with_offset.Goals as goal

pub invariant_of-tests : goal.invariant_of-tests
invariant_of-tests c = search (rules, list_all-set)
