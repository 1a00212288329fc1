-- The pieces so far are written, and no write failed.
use Rattle.std.proofs.Common.{drop}
use Rattle.std.specs.List.{flat_map}
use Rattle.pc_outside.specs.CountLaws.{NoneFailed}
use Rattle.pc_outside.specs.Writes.{GrowsUpTo}
use Rattle.pc_outside.proofs.pieces.write_pieces.Given as goal

abbrev pub invariant-loop-piece : goal.invariant-loop-piece
invariant-loop-piece g l =
    GrowsUpTo (g.O.Sink.written l.initial.out) (g.O.Sink.written l.out) (flat_map (λ piece. piece.now) l.pieces) (flat_map (λ piece. piece.now) (drop l.piece-index l.pieces))
    × NoneFailed g.O.Sink.counts_failures_alone (g.O.Sink.faults l.initial.out) (g.O.Sink.faults l.out)
