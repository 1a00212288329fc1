-- A pattern with one queue has the elements of this queue.
use Rattle.std.proofs.Common.{rules}
use Rattle.queue_pattern.proofs.CallerLemmas.{pattern-alone}
use Rattle.enumerate.specs.SearchState.{root_of}
use Rattle.enumerate.specs.Work.{pairs}
use Rattle.enumerate.proofs.laws.pairs_of_one_queue_are_those_of_its_problem.Goals as goal

pub returns : goal.returns
unfolding pairs root_of
returns c = search (rules, pattern-alone)
