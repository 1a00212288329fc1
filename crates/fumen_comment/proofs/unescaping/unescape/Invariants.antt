-- The units so far and those of what is left are all units.
use Rattle.std.proofs.Common.{◌≡◌, ◌++◌, length}
use Rattle.fumen_comment.specs.Unescape.{unescaped}
use Rattle.fumen_comment.proofs.unescaping.unescape.Given as goal

abbrev pub invariant-loop-rest : goal.invariant-loop-rest
invariant-loop-rest l = l.units.items ++ unescaped l.rest ≡ unescaped l.text

abbrev pub decreases-loop-rest : goal.decreases-loop-rest
decreases-loop-rest l = length l.rest
