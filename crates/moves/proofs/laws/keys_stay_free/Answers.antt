-- The laws are lemmas.
use Rattle.moves.proofs.RestTest.{leads-free}
use Rattle.moves.proofs.laws.keys_stay_free.Goals as goal

pub returns-clause-free : goal.returns-clause-free
returns-clause-free c = λ table F piece keys state reached. (leads-free table F piece keys state reached).free

pub returns-clause-piece : goal.returns-clause-piece
returns-clause-piece c = λ table F piece keys state reached. (leads-free table F piece keys state reached).kind
