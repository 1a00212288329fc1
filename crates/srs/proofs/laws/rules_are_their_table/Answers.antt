-- The clause is a lemma.
use Rattle.srs.proofs.TableLemmas.{table_of-injective}
use Rattle.srs.proofs.laws.rules_are_their_table.Goals as goal

pub returns : goal.returns
returns c = table_of-injective
