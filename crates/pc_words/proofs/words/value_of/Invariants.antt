-- None of the pairs so far has the name.
use Rattle.std.proofs.Common.{◌≡◌, ◌-◌, drop, length}
use Rattle.pc_words.specs.Words.{texts, value_of}
use Rattle.pc_words.proofs.words.value_of.Given as goal

abbrev pub invariant-loop-index : goal.invariant-loop-index
invariant-loop-index l = value_of l.option (drop l.index (texts l.pairs)) ≡ value_of l.option (texts l.pairs)

abbrev pub decreases-loop-index : goal.decreases-loop-index
decreases-loop-index l = length l.pairs - l.index
