-- The goals of `Family::or` that need lemmas.
use Rattle.hold_queue.proofs.FamilyBits.{has_set-or}
use Rattle.hold_queue.proofs.family.Family.or.Goals as goal

pub returns : goal.returns
returns c = λ set within. has_set-or c.args.self c.args.other set
