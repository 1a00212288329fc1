-- Two sequences that a text spells are the one that it is read as.
use Rattle.sequence_text.proofs.Fronts.{one_sequence}
use Rattle.sequence_text.proofs.laws.spelled_sequences_are_determined.Goals as goal

pub returns : goal.returns
returns c = one_sequence
