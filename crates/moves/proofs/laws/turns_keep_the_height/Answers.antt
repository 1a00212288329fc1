-- The clause is a lemma.
use Rattle.moves.proofs.HardLemmas.{turns_keep}
use Rattle.moves.proofs.laws.turns_keep_the_height.Goals as goal

pub returns : goal.returns
returns c = turns_keep
