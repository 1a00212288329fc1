-- The law is a lemma.
use Rattle.key_path.proofs.KeyWordLemmas.{place_has_word}
use Rattle.key_path.proofs.laws.places_have_key_words.Goals as goal

pub returns : goal.returns
returns c = place_has_word
