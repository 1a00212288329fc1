-- The goals of `without` that need lemmas.
use Rattle.std.proofs.Common.{bit_and, rules}
use Rattle.queue_pattern.proofs.SetLemmas.{pieces_in-without}
use Rattle.queue_pattern.proofs.sets.without.Goals as goal

pub returns-clause-rest : goal.returns-clause-rest
returns-clause-rest c = search (rules, bit_and, pieces_in-without)
