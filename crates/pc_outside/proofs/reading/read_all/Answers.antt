-- The bytes of a read for which there is no memory were taken too.
use Rattle.std.proofs.Common.{◌+◌, arith}
use Rattle.std.proofs.lemmas.List.{length-append, length-take}
use Rattle.pc_outside.specs.ReadLaws.{takes_more, takes_at_most}
use Rattle.pc_outside.proofs.reading.read_all.Goals as goal

pub returns-in_err-extend_from_slice-clause-front : goal.returns-in_err-extend_from_slice-clause-front
returns-in_err-extend_from_slice-clause-front g c =
    let moved = c.in_ok-n.ensures.moved in
    let room = length-take c.min-room.result c.loop-chunk.chunk in
    takes_at_most (c.args.limit + 1) (takes_more c.loop-chunk.invariant.0 moved.taken) (simp (length-append, length-take) (omega (arith, moved.within, room)))
