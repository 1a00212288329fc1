-- What the words ask for lies in its ranges.
use Rattle.pc_words.proofs.Ranges.{ranged}
use Rattle.pc_words.proofs.words.read_words.Goals as goal

pub returns-in-Ok-clause-range : goal.returns-in-Ok-clause-range
returns-in-Ok-clause-range c = ranged c.in-Some.command _ c.in-Ok.values c.settings_of.result c.in-Ok.ensures.values c.settings_of.ensures
