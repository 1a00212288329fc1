-- The law is two lemmas.
use Rattle.queue_pattern.proofs.FaultsFound.{unexpected_found}
use Rattle.queue_pattern.proofs.FaultsRead.{unexpected_read}
use Rattle.queue_pattern.proofs.FormLeft.{left-from_unexpected}
use Rattle.queue_pattern.proofs.laws.unexpected_bytes_leave_the_form.Goals as goal

pub returns-clause-exact : goal.returns-clause-exact
returns-clause-exact c = λ text place. (unexpected_found text place, unexpected_read text place)

pub returns-clause-only : goal.returns-clause-only
returns-clause-only c = left-from_unexpected
