-- The goal of `good_is_decided` needs a lemma.
use Rattle.percent.proofs.GoodLemmas.{good-decides}
use Rattle.percent.proofs.laws.good_is_decided.Goals as goal

pub returns : goal.returns
returns c = good-decides
