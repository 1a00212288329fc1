-- So many solutions are written, and the search lists those behind them.
use Rattle.std.proofs.Common.{◌≡◌, ◌*◌, ◌-◌, ◌≤◌, length, take, drop}
use Rattle.std.specs.List.{flat_map}
use Rattle.placement_numbers.specs.Numbers.{sequence_numbers}
use Rattle.problem.specs.Problem.{needed_of}
use Rattle.enumerate.specs.ViewOf.{after_given, solutions}
use Rattle.pc_path.specs.Work.{IsSearchOf}
use Rattle.pc_solutions.proofs.list.write_list.Given as goal

abbrev pub invariant-loop-count : goal.invariant-loop-count
invariant-loop-count g l =
    (l.size ≡ l.count * (4 * needed_of l.problem))
    × (take l.size l.placements ≡ flat_map sequence_numbers (take l.count (solutions l.initial.search)))
    × (drop l.size l.placements ≡ drop l.size l.initial.placements)
    × (l.initial.steps ≤ l.steps)
    × IsSearchOf l.problem (after_given l.initial.search) l.search (l.steps - l.initial.steps)
    × (solutions l.search ≡ drop l.count (solutions l.initial.search))
    × (l.count ≤ length (solutions l.initial.search))
