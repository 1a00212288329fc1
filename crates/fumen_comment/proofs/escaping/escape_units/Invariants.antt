-- The text is that of the units so far.
use Rattle.std.proofs.Common.{◌≡◌, take}
use Rattle.std.specs.List.{flat_map}
use Rattle.fumen_comment.specs.Escape.{escaped_unit}
use Rattle.fumen_comment.proofs.escaping.escape_units.Given as goal

abbrev pub invariant-loop-unit : goal.invariant-loop-unit
invariant-loop-unit l = l.text.items ≡ flat_map escaped_unit (take l.unit-index l.units)
