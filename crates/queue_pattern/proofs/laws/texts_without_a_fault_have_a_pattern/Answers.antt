-- What is spelled is sound, so a pattern can keep it.
use Rattle.queue_pattern.proofs.PatternMade.{pattern-made}
use Rattle.queue_pattern.proofs.laws.texts_without_a_fault_have_a_pattern.Goals as goal

pub returns : goal.returns
returns c = pattern-made
