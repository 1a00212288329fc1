-- The kinds of the first sequences are kept.
use Rattle.std.proofs.Common.{◌≡◌, ◌≤◌, ◌+◌, length, map, take, sum_by}
use Rattle.cover.specs.Kept.{lists_of, kept_problem}
use Rattle.pc_cover.specs.Covering.{KeepsKindsOf}
use Rattle.pc_cover.specs.Sequences.{listed_placements}
use Rattle.pc_cover.proofs.covering.covering.Given as goal

abbrev pub invariant-loop-sequence : goal.invariant-loop-sequence
invariant-loop-sequence g l =
    (kept_problem l.set ≡ l.problem) × KeepsKindsOf l.problem (lists_of l.set) (map listed_placements (take l.sequence-index l.sequences)) × (l.fn.steps ≤ l.steps)
    × (l.steps ≤ l.fn.steps + sum_by length (map listed_placements (take l.sequence-index l.sequences)))
