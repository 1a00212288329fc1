-- The goals of `permitting_is_taking` that need lemmas.
use Rattle.hold_queue.proofs.AtHandLemmas.{permits-is_takes, permits-held}
use Rattle.hold_queue.proofs.laws.permitting_is_taking.Goals as goal

pub returns-clause-taken : goal.returns-clause-taken
returns-clause-taken c = permits-is_takes

pub returns-clause-held : goal.returns-clause-held
returns-clause-held c = permits-held
