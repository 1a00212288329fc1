-- The lines of the pieces so far are written.
use Rattle.std.proofs.Common.{◌≡◌, ◌++◌, take}
use Rattle.std.specs.List.{flat_map}
use Rattle.srs.specs.Rules.{table_of}
use Rattle.srs.specs.Piece.{all_pieces}
use Rattle.pc_kicks.specs.Lines.{entry_lines, turn_lines}
use Rattle.pc_kicks.proofs.lines.lines_of.Given as goal

abbrev pub invariant-entries : goal.invariant-entries
invariant-entries l = l.text.items ≡ flat_map (entry_lines (table_of l.rules)) (take l.piece-index all_pieces)

abbrev pub invariant-turns : goal.invariant-turns
invariant-turns l = l.text.items ≡ l.initial.text.items ++ flat_map (turn_lines (table_of l.rules)) (take l.piece-index all_pieces)
