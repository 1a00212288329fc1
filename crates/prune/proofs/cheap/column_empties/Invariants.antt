-- So many cells of the rows below are empty.
use Rattle.std.proofs.Common.{◌≡◌, ◌≤◌}
use Rattle.well.specs.Well.{filled}
use Rattle.prune.specs.Counts.{column_empties}
use Rattle.prune.proofs.cheap.column_empties.Given as goal

abbrev pub invariant-loop-y : goal.invariant-loop-y
invariant-loop-y l = record { counted : l.empties ≡ column_empties (filled l.well) l.y l.x; small : l.empties ≤ l.y }
