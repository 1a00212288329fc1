-- Each item spells its placement.
use Rattle.sequence_text.proofs.SpelledForm.{written_is_spelled}
use Rattle.sequence_text.proofs.laws.written_sequences_are_spelled.Goals as goal

pub returns : goal.returns
returns c = written_is_spelled
