-- What the loop of `push_piece` keeps.
use Rattle.std.proofs.Common.{◌≡◌, ◌++◌, take}
use Rattle.std.specs.List.{flat_map}
use Rattle.srs.specs.Rules.{table_of}
use Rattle.srs.specs.Rotation.{all_rotations}
use Rattle.kick_file.specs.Printing.{ended_entry}
use Rattle.kick_file.proofs.printing.push_piece.Given as goal

abbrev pub invariant-loop-rotation : goal.invariant-loop-rotation
invariant-loop-rotation l = l.text.items ≡ l.fn.text.items ++ flat_map (ended_entry (table_of l.rules) l.piece) (take l.rotation-index all_rotations)
