-- The lines of the rotations so far are written.
use Rattle.std.proofs.Common.{◌≡◌, ◌++◌, take}
use Rattle.std.specs.List.{flat_map}
use Rattle.srs.specs.Rules.{table_of}
use Rattle.srs.specs.Rotation.{all_rotations}
use Rattle.pc_kicks.specs.Lines.{entry_line}
use Rattle.pc_kicks.proofs.lines.push_entries.Given as goal

abbrev pub invariant-loop-rotation : goal.invariant-loop-rotation
invariant-loop-rotation l = l.text.items ≡ l.fn.text.items ++ flat_map (entry_line (table_of l.rules) l.piece) (take l.rotation-index all_rotations)
