-- The bytes before the rest are with the writer, and each turn takes a byte.
use Rattle.std.proofs.Common.{◌≡◌, [], length}
use Rattle.pc_outside.specs.Writes.{GrowsUpTo}
use Rattle.pc_outside.proofs.file_sink.write_whole.Given as goal

abbrev pub invariant-loop-rest : goal.invariant-loop-rest
invariant-loop-rest g l =
    GrowsUpTo (g.W.Write.contents l.initial.writer) (g.W.Write.contents l.writer) l.bytes l.rest × (l.bytes ≡ [] → (l.rest ≡ []) × (l.writer ≡ l.initial.writer))

abbrev pub decreases-loop-rest : goal.decreases-loop-rest
decreases-loop-rest g l = length l.rest
