-- What is appended so far and the groups of what is left are the whole part.
use Rattle.std.specs.Slice.Iter.{chunks_rest, chunks_size}
use Rattle.fumen_comment.proofs.WriteLoop.{IsWrittenSoFar}
use Rattle.fumen_comment.proofs.part.push_part.Given as goal

abbrev pub invariant-loop-group : goal.invariant-loop-group
invariant-loop-group l =
    IsWrittenSoFar l.fn.out.items l.escaped l.out.items (chunks_rest l.group-iterator) (chunks_size l.group-iterator)
