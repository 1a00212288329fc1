-- What the loops of `states_of` keep.
use Rattle.std.proofs.Common.{◌+◌, ◌*◌}
use Rattle.queue_pattern.specs.Pattern.{elements_of}
use Rattle.tails.specs.MadeStates.{AreEntries}
use Rattle.tails.proofs.states.states_of.Given as goal

abbrev pub invariant-loop-set : goal.invariant-loop-set
invariant-loop-set l = AreEntries (elements_of l.pattern) l.states.items (l.index * 128 + l.set)

abbrev pub invariant-loop-index : goal.invariant-loop-index
invariant-loop-index l = AreEntries (elements_of l.pattern) l.states.items (l.index * 128)
