-- The laws are lemmas.
use Rattle.moves.proofs.RestLemmas.{rest_of-is, rest_of-only}
use Rattle.moves.proofs.laws.free_states_have_one_rest.Goals as goal

pub returns-clause-one : goal.returns-clause-one
returns-clause-one c = rest_of-is

pub returns-clause-no_other : goal.returns-clause-no_other
returns-clause-no_other c = rest_of-only
