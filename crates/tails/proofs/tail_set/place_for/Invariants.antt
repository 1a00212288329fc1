use Rattle.std.proofs.Common.{◌-◌}
use Rattle.tails.proofs.PlaceLemmas.{IsBetween}
use Rattle.tails.proofs.tail_set.place_for.Given as goal

abbrev pub invariant-loop-low : goal.invariant-loop-low
invariant-loop-low l = IsBetween l.blocks l.low l.high l.key

abbrev pub decreases-loop-low : goal.decreases-loop-low
decreases-loop-low l = l.high - l.low
