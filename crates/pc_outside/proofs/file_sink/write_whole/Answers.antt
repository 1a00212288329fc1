-- What is left after a turn is what the writer didn't take.
use Rattle.std.proofs.Common.{length, ap, arith}
use Rattle.std.proofs.lemmas.List.{take_rest}
use Rattle.pc_outside.specs.WriteLaws.{after_first}
use Rattle.pc_outside.proofs.file_sink.write_whole.Goals as goal

pub loop-rest-preserved : goal.loop-rest-preserved
loop-rest-preserved g c =
    let some = c.in_ok-n.ensures.some in
    rw take_rest (after_first c.in_ok-n.n c.loop-rest.invariant.0 c.in_ok-n.ensures.taken, λ none. absurd (omega (arith, some, ap length (c.loop-rest.invariant.1 none).0)))
