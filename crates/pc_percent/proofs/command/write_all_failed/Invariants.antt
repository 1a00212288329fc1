-- The lines of the failed queues so far are written, and those of the queues that are left make the rest.
use Rattle.std.proofs.Common.{drop}
use Rattle.pc_outside.specs.CountLaws.{NoneFailed}
use Rattle.pc_outside.specs.Writes.{GrowsUpTo}
use Rattle.queue_pattern.specs.Pattern.{elements_of}
use Rattle.queue_pattern.specs.Queues.{queues}
use Rattle.percent.specs.GoodHands.{is_good_queue}
use Rattle.pc_percent.specs.Lines.{failed_lines}
use Rattle.pc_percent.proofs.command.write_all_failed.Given as goal

abbrev pub invariant-loop-number : goal.invariant-loop-number
invariant-loop-number g l =
    GrowsUpTo (g.O.Sink.written l.initial.out) (g.O.Sink.written l.out)
    (failed_lines (is_good_queue l.problem) l.limit (queues (elements_of l.problem.pattern)))
    (failed_lines (is_good_queue l.problem) l.left (drop l.number (queues (elements_of l.problem.pattern))))
    × NoneFailed g.O.Sink.counts_failures_alone (g.O.Sink.faults l.initial.out) (g.O.Sink.faults l.out)
