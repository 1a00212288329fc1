-- The goals of `has_none` that need lemmas.
use Rattle.std.proofs.Common.{arith}
use Rattle.hold_queue.proofs.FamilyBits.{word_none}
use Rattle.hold_queue.proofs.family.has_none.Goals as goal

pub returns : goal.returns
returns c = word_none c.args.bits (omega arith)
