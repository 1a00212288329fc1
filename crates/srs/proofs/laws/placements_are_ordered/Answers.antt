-- Both clauses are lemmas.
use Rattle.srs.proofs.OrderLemmas.{placement_cmp-equal, placement_cmp-total}
use Rattle.srs.proofs.laws.placements_are_ordered.Goals as goal

pub returns-clause-total : goal.returns-clause-total
returns-clause-total c = placement_cmp-total

pub returns-clause-equal : goal.returns-clause-equal
returns-clause-equal c = placement_cmp-equal
