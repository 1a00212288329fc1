-- The letters so far are those of the first pieces.
use Rattle.std.proofs.Common.{◌≡◌, map, take}
use Rattle.srs.specs.Piece.{piece_letter}
use Rattle.queue_lines.proofs.lines.letters.Given as goal

abbrev pub invariant-pieces : goal.invariant-pieces
invariant-pieces l = l.letters.items ≡ map piece_letter (take l.piece-index l.queue.items)
