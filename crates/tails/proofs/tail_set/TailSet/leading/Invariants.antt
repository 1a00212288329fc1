use Rattle.std.proofs.Common.{◌≡◌, ℕ, ◌+◌, nat_lt, ◌&&◌, take}
use Rattle.std.specs.List.{list_any}
use Rattle.lane_board.specs.Lanes.{has_bit}
use Rattle.tails.specs.Takings.{runs_to}
use Rattle.tails.specs.TailSets.{has}
use Rattle.tails.proofs.tail_set.TailSet.leading.Given as goal

abbrev pub invariant-loop-taking : goal.invariant-loop-taking
invariant-loop-taking l = (k : ℕ) → has_bit l.leading k ≡ (nat_lt k 64 && list_any (runs_to (has l.self) (l.place + k)) (take l.taking-index l.takings))
