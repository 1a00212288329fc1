-- The letters of the keys so far are in the comment.
use Rattle.std.proofs.Common.{◌≡◌, map, take}
use Rattle.moves.specs.Keys.{key_letter}
use Rattle.report.proofs.fumen_line.keys_comment.Given as goal

abbrev pub invariant-loop-key : goal.invariant-loop-key
invariant-loop-key l = l.units.items ≡ map key_letter (take l.key-index l.key-items)
