-- The bytes so far were taken, at most one more than the limit, and no read failed.
use Rattle.std.proofs.Common.{◌+◌, ◌-◌, ◌≤◌, vec_len}
use Rattle.pc_outside.specs.CountLaws.{NoneFailed}
use Rattle.pc_outside.specs.Reads.{TakesBytes}
use Rattle.pc_outside.proofs.reading.read_all.Given as goal

abbrev pub invariant-loop-chunk : goal.invariant-loop-chunk
invariant-loop-chunk g l =
    TakesBytes (g.S.Source.left l.initial.source) (g.S.Source.left l.source) l.bytes.items
    × NoneFailed g.S.Source.counts_failures_alone (g.S.Source.faults l.initial.source) (g.S.Source.faults l.source)
    × (vec_len l.bytes ≤ l.limit + 1)

abbrev pub decreases-loop-chunk : goal.decreases-loop-chunk
decreases-loop-chunk g l = l.limit + 1 - vec_len l.bytes
