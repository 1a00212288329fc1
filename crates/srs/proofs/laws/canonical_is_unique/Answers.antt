-- Each clause is a lemma.
use Rattle.srs.proofs.CanonicalLemmas.{canonical_unique, is_canonical-from, IsCanonical-from_test, same_cells-piece}
use Rattle.srs.proofs.laws.canonical_is_unique.Goals as goal

pub returns-clause-piece : goal.returns-clause-piece
returns-clause-piece c = same_cells-piece

pub returns-clause-unique : goal.returns-clause-unique
returns-clause-unique c = canonical_unique

pub returns-clause-tested : goal.returns-clause-tested
returns-clause-tested c = λ s. (IsCanonical-from_test s, is_canonical-from s)
