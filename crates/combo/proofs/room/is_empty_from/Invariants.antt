-- The column is empty so far.
use Rattle.std.proofs.Common.{◌≡◌, ℕ, ◌≤◌, ◌<◌, false}
use Rattle.well.specs.Well.{filled}
use Rattle.combo.proofs.room.is_empty_from.Given as goal

abbrev pub invariant-loop-y : goal.invariant-loop-y
invariant-loop-y l = (k : ℕ) → l.height ≤ k → k < l.y → filled l.well l.x k ≡ false
