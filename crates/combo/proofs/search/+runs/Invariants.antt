-- Fewer placements are asked for after each one, and fewer places are left.
use Rattle.std.proofs.Common.{◌≡◌, ◌≤◌, ◌*◌, ◌+◌, length}
use Rattle.std.specs.Option.{ForSome}
use Rattle.place_sets.specs.Places.{piece_of}
use Rattle.reach.specs.FloodRules.{flood_table}
use Rattle.well.specs.Well.{filled}
use Rattle.combo.specs.First.{AreShorter, RunsOnUpTo}
use Rattle.combo.specs.Searched.{HaveShorterRuns}
use Rattle.combo.proofs.PlacesLeft.{places_left}
use Rattle.combo.proofs.search.+runs.Given as goal

abbrev pub decreases-first_run : goal.decreases-first_run
decreases-first_run g l = 4 * l.count + 2

abbrev pub decreases-first_of_takes : goal.decreases-first_of_takes
decreases-first_of_takes g l = 4 * l.count + 1

abbrev pub decreases-first_after : goal.decreases-first_after
decreases-first_after g l = 4 * l.count

abbrev pub invariant-first_after-loop-placement : goal.invariant-first_after-loop-placement
invariant-first_after-loop-placement g l =
    AreShorter (RunsOnUpTo (flood_table l.play.rules) l.play.drop_mode l.play.hold (filled l.well) l.queue.items l.taken l.entered) l.count
    × ForSome l.entered (λ q. q.piece ≡ l.taken.piece) × (piece_of l.places ≡ l.taken.piece)
    × HaveShorterRuns (flood_table l.play.rules) l.play.drop_mode l.play.hold l.queue.items l.store
    × (l.fn.steps ≤ l.steps)

abbrev pub decreases-first_after-loop-placement : goal.decreases-first_after-loop-placement
decreases-first_after-loop-placement g l = length (places_left l.places l.entered)
