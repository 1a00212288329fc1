-- The lines of the rotations so far are written.
use Rattle.std.proofs.Common.{◌≡◌, ◌++◌, take}
use Rattle.std.specs.List.{flat_map}
use Rattle.srs.specs.Rules.{table_of}
use Rattle.srs.specs.Rotation.{all_rotations}
use Rattle.pc_kicks.specs.Lines.{both_turns}
use Rattle.pc_kicks.proofs.lines.push_turns.Given as goal

abbrev pub invariant-loop-from : goal.invariant-loop-from
invariant-loop-from l = l.text.items ≡ l.fn.text.items ++ flat_map (both_turns (table_of l.rules) l.piece) (take l.from-index all_rotations)
