-- The laws are lemmas.
use Rattle.moves.proofs.StepLemmas.{step_of-free}
use Rattle.moves.proofs.laws.steps_stay_free.Goals as goal

pub returns-clause-free : goal.returns-clause-free
returns-clause-free c = λ table F state key next e. (step_of-free table F state key next e).free

pub returns-clause-piece : goal.returns-clause-piece
returns-clause-piece c = λ table F state key next e. (step_of-free table F state key next e).kind
