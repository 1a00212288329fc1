-- None of the rows so far has an empty cell in both columns.
use Rattle.std.proofs.Common.{◌≡◌, ℕ, ◌+◌, ◌<◌, false}
use Rattle.well.specs.Well.{filled}
use Rattle.prune.proofs.walls.is_walled.Given as goal

abbrev pub invariant-loop-y : goal.invariant-loop-y
invariant-loop-y l = (y : ℕ) → y < l.y → filled l.well l.x y ≡ false → filled l.well (l.x + 1) y ≡ false → ⊥
