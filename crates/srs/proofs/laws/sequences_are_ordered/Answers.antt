-- Both clauses are lemmas.
use Rattle.srs.proofs.OrderLemmas.{sequence_cmp-equal, sequence_cmp-total}
use Rattle.srs.proofs.laws.sequences_are_ordered.Goals as goal

pub returns-clause-total : goal.returns-clause-total
returns-clause-total c = sequence_cmp-total

pub returns-clause-equal : goal.returns-clause-equal
returns-clause-equal c = sequence_cmp-equal
