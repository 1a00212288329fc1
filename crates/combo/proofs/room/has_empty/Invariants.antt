-- The column is filled so far.
use Rattle.std.proofs.Common.{◌≡◌, ℕ, ◌<◌, true}
use Rattle.well.specs.Well.{filled}
use Rattle.combo.proofs.room.has_empty.Given as goal

abbrev pub invariant-loop-y : goal.invariant-loop-y
invariant-loop-y l = (k : ℕ) → k < l.y → filled l.well l.x k ≡ true
