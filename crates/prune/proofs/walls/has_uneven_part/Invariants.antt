-- The columns before this one.
use Rattle.well.specs.Well.{filled}
use Rattle.prune.proofs.UnevenParts.{Parts}
use Rattle.prune.proofs.walls.has_uneven_part.Given as goal

abbrev pub invariant-loop-x : goal.invariant-loop-x
invariant-loop-x l = Parts (filled l.well) l.rows_left l.x l.empties
