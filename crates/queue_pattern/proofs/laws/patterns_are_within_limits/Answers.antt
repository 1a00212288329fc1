-- The goals of `patterns_are_within_limits` that need lemmas.
use Rattle.queue_pattern.proofs.PatternFacts.{pattern-some, pattern-short}
use Rattle.queue_pattern.proofs.laws.patterns_are_within_limits.Goals as goal

pub returns-clause-some : goal.returns-clause-some
returns-clause-some c = pattern-some

pub returns-clause-short : goal.returns-clause-short
returns-clause-short c = pattern-short
