-- The goals of `texts_are_read_as_they_spell` that need lemmas.
use Rattle.queue_pattern.proofs.ReadIsSpelled.{spelled-from_read}
use Rattle.queue_pattern.proofs.SpelledIsRead.{read-from_spelled}
use Rattle.queue_pattern.proofs.laws.texts_are_read_as_they_spell.Goals as goal

pub returns : goal.returns
returns c = λ text elements. (spelled-from_read text elements, λ spelled. read-from_spelled text elements spelled 0)
