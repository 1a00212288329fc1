-- No row so far has a cell.
use Rattle.std.proofs.Common.{◌≡◌, ℕ, ◌<◌, ◌≤◌, false}
use Rattle.well.specs.Counts.{is_filled_row}
use Rattle.well.specs.Well.{filled}
use Rattle.well.proofs.well.Well.lowest_filled_from.Given as goal

abbrev pub invariant-loop-y : goal.invariant-loop-y
invariant-loop-y l = (k : ℕ) → l.height ≤ k → k < l.y → is_filled_row (filled l.self) k ≡ false
