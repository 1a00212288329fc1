-- The goals of `Pattern::within_limits` that need lemmas.
use Rattle.std.proofs.Common.{rules}
use Rattle.queue_pattern.specs.Pattern.{elements_of}
use Rattle.queue_pattern.proofs.LimitLemmas.{within, limited-within}
use Rattle.queue_pattern.proofs.pattern.Pattern.within_limits.Goals as goal

pub invariant_of-result : goal.invariant_of-result
invariant_of-result c = search (rules, within)

pub returns-clause-pattern : goal.returns-clause-pattern
unfolding elements_of
returns-clause-pattern c = search (rules, within, limited-within)
