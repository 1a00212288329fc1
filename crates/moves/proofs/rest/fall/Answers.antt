-- While the state a row lower is free, the two have the same rest.
use Rattle.std.proofs.Common.{rules}
use Rattle.moves.proofs.RestLemmas.{rest_of-is, rests_in_row_0, rests_blocked}
use Rattle.moves.proofs.rest.fall.Goals as goal

pub returns-then-not-is_free : goal.returns-then-not-is_free
returns-then-not-is_free c = search (rules, rests_blocked, rest_of-is)

pub returns : goal.returns
returns c = search (rules, rests_in_row_0, rest_of-is)
