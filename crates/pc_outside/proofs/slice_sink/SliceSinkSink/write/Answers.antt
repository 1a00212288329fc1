-- The bytes that fit were written, and the first one that doesn't fit is held.
use Rattle.std.proofs.Common.{◌+◌, arith}
use Rattle.std.proofs.lemmas.Grind.{common_steps}
use Rattle.pc_outside.specs.WriteLaws.{front_taken}
use Rattle.pc_outside.proofs.slice_sink.SliceSinkSink.write.Goals.{then-self-eq0, else-self-eq0}
use Rattle.pc_outside.proofs.slice_sink.SliceSinkSink.write.Goals as goal

pub returns-then-n-bytes-clause-written : goal.returns-then-n-bytes-clause-written
returns-then-n-bytes-clause-written c = record {
  done = tt;
  failed = elim c.if-self-eq0.branch [
    | then-self-eq0 w ↦ front_taken (c.min-n.result + 1) (grind (arith, common_steps))
    | else-self-eq0 w ↦ front_taken 0 (grind (arith, common_steps))
  ];
}
