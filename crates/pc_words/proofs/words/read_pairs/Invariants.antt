-- The values are those of the pairs so far, and the first fault is that of the pairs that are left.
use Rattle.std.proofs.Common.{◌≡◌, ◌-◌, ◌%◌, ◌≤◌, [], drop, take, length}
use Rattle.pc_words.specs.Words.{pairs_fault, texts, values_in}
use Rattle.pc_words.proofs.words.read_pairs.Given as goal

abbrev pub invariant-loop-index : goal.invariant-loop-index
invariant-loop-index l =
    (pairs_fault l.command (take l.index (texts l.pairs)) (drop l.index (texts l.pairs)) ≡ pairs_fault l.command [] (texts l.pairs))
    × (l.values ≡ values_in (take l.index (texts l.pairs))) × (l.index % 2 ≡ 0) × (l.index ≤ length l.pairs)

abbrev pub decreases-loop-index : goal.decreases-loop-index
decreases-loop-index l = length l.pairs - l.index
