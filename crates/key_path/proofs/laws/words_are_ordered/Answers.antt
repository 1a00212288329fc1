-- The laws are lemmas.
use Rattle.key_path.proofs.WordLemmas.{word_cmp-total, word_cmp-antisymmetric}
use Rattle.key_path.proofs.laws.words_are_ordered.Goals as goal

pub returns-clause-total : goal.returns-clause-total
returns-clause-total c = word_cmp-total

pub returns-clause-equal : goal.returns-clause-equal
returns-clause-equal c = word_cmp-antisymmetric
