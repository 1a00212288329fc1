-- The clause is a lemma.
use Rattle.moves.proofs.WindowLemmas.{window}
use Rattle.moves.proofs.laws.window_loses_nothing.Goals as goal

pub returns : goal.returns
returns c = window
