use Rattle.tails.proofs.LawLemmas.{hand-leads, rest-is-tail}
use Rattle.tails.proofs.laws.hands_are_taken_from_by_tails.Goals as goal

pub returns-clause-taken : goal.returns-clause-taken
returns-clause-taken c = hand-leads

pub returns-clause-rests : goal.returns-clause-rests
returns-clause-rests c = rest-is-tail
