-- The laws are lemmas.
use Rattle.key_path.proofs.KeyWordLemmas.{key_word-is, is_key_word}
use Rattle.key_path.proofs.laws.key_words_are_found.Goals as goal

pub returns-clause-one : goal.returns-clause-one
returns-clause-one c = key_word-is

pub returns-clause-no_other : goal.returns-clause-no_other
returns-clause-no_other c = is_key_word
