use Rattle.std.proofs.Common.{ℕ, ◌≡◌}
use Rattle.hands.specs.Numbers.{has_number}
use Rattle.tails.proofs.MergeSteps.{first_have}
use Rattle.tails.proofs.tail_set.TailSet.numbers.Given as goal

abbrev pub invariant-loop-block : goal.invariant-loop-block
invariant-loop-block l = (tail : ℕ) → has_number l.numbers.items tail ≡ first_have l.fn.self.blocks.items l.block-index tail
