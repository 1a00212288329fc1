-- What the loops of `falling_product` keep.
use Rattle.std.proofs.Common.{◌≡◌, ◌*◌, ◌-◌, ◌≤◌, ◌^◌}
use Rattle.queue_pattern.specs.Queues.{falling_factor}
use Rattle.queue_pattern.proofs.builder.falling_product.Given as goal

abbrev pub invariant-loop-taken : goal.invariant-loop-taken
invariant-loop-taken l =
    (l.product * falling_factor (l.pieces - l.taken) (l.chosen - l.taken) ≡ falling_factor l.pieces l.chosen) × (l.product ≤ 7 ^ l.taken)
