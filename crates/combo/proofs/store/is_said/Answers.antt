-- What an entry says.
use Rattle.std.proofs.Common.{rules}
use Rattle.combo.proofs.StoreLemmas.{says_shorter}
use Rattle.combo.proofs.store.is_said.Goals as goal

pub returns-in-Some : goal.returns-in-Some
returns-in-Some c = search (rules, says_shorter)
