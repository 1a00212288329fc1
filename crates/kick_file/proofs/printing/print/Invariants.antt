-- What the loop of `print` keeps.
use Rattle.std.proofs.Common.{◌≡◌, take}
use Rattle.std.specs.List.{flat_map}
use Rattle.srs.specs.Rules.{table_of}
use Rattle.srs.specs.Piece.{all_pieces}
use Rattle.kick_file.specs.Printing.{piece_form}
use Rattle.kick_file.proofs.printing.print.Given as goal

abbrev pub invariant-loop-piece : goal.invariant-loop-piece
invariant-loop-piece l = l.text.items ≡ flat_map (piece_form (table_of l.rules)) (take l.piece-index all_pieces)
