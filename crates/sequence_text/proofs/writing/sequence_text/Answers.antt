-- The placements are written one after the other.
use Rattle.std.proofs.Common.{◌∙◌}
use Rattle.sequence_text.proofs.PlainForm.{plain_is}
use Rattle.sequence_text.proofs.writing.sequence_text.Goals as goal

pub returns-clause-items : goal.returns-clause-items
returns-clause-items c = c.push_sequence.ensures.items ∙ plain_is c.args.placements.now
