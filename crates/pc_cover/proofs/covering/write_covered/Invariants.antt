-- The lines of the queues before a number are written, and those from it on are left.
use Rattle.std.proofs.Common.{◌≡◌, ◌+◌, ◌-◌, ◌≤◌, length}
use Rattle.pc_outside.specs.CountLaws.{NoneFailed}
use Rattle.pc_outside.specs.Writes.{GrowsUpTo}
use Rattle.queue_pattern.specs.Pattern.{elements_of}
use Rattle.queue_pattern.specs.Queues.{queues}
use Rattle.cover.specs.Kept.{lists_of}
use Rattle.pc_cover.specs.Covering.{numbers_from}
use Rattle.pc_cover.specs.Lines.{queues_form}
use Rattle.pc_cover.proofs.covering.write_covered.Given as goal

abbrev pub invariant-loop-from : goal.invariant-loop-from
invariant-loop-from g l =
    let all = queues (elements_of l.problem.pattern) in
    let lists = lists_of l.set in
    GrowsUpTo (g.O.Sink.written l.fn.out) (g.O.Sink.written l.out) (queues_form all (numbers_from l.problem lists 0)) (queues_form all (numbers_from l.problem lists l.from))
    × NoneFailed g.O.Sink.counts_failures_alone (g.O.Sink.faults l.fn.out) (g.O.Sink.faults l.out)
    × (l.count + length (numbers_from l.problem lists l.from) ≡ length (numbers_from l.problem lists 0))
    × (l.count ≤ l.from) × (l.from ≤ length all)

abbrev pub decreases-loop-from : goal.decreases-loop-from
decreases-loop-from g l = length (queues (elements_of l.problem.pattern)) - l.from
