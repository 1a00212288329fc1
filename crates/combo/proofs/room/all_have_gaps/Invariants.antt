-- Each row so far has gaps.
use Rattle.std.proofs.Common.{◌≡◌, ℕ, ◌<◌, true}
use Rattle.well.specs.Well.{filled}
use Rattle.combo.specs.Middle.{has_gaps}
use Rattle.combo.proofs.room.all_have_gaps.Given as goal

abbrev pub invariant-loop-y : goal.invariant-loop-y
invariant-loop-y l = (k : ℕ) → k < l.y → has_gaps (filled l.well) k ≡ true
