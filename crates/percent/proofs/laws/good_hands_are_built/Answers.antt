-- The goal of `good_hands_are_built` needs a lemma.
use Rattle.percent.proofs.BuiltLemmas.{good-own}
use Rattle.percent.proofs.laws.good_hands_are_built.Goals as goal

pub returns : goal.returns
returns c = good-own
