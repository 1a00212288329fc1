-- The law is a lemma.
use Rattle.key_path.proofs.KeyWordLemmas.{least_is_short}
use Rattle.key_path.proofs.laws.key_words_are_short.Goals as goal

pub returns : goal.returns
returns c = least_is_short
