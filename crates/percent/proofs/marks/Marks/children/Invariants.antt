-- The positions so far and the places that are still held.
use Rattle.std.proofs.Common.{All}
use Rattle.hands.specs.Numbers.{has_number}
use Rattle.percent.specs.Children.{IsChild}
use Rattle.percent.specs.Marks.{IsStanding}
use Rattle.well.specs.Well.{filled}
use Rattle.percent.proofs.PlaceLemmas.{Entering, count_places_held}
use Rattle.percent.proofs.marks.Marks.children.Given as goal

abbrev pub invariant-loop-placement : goal.invariant-loop-placement
invariant-loop-placement g l =
    Entering l.kept.game (filled l.position.well) l.position.rows l.fn.asked.piece l.fn.asked.left (has_number l.fn.asked.hands.items) l.children.items l.places
    × All (IsChild l.self.game l.self.position l.fn.asked.piece) l.children.items
    × All (λ child. IsStanding l.self.known.items l.self.rows child.placement child.standing) l.children.items

abbrev pub decreases-loop-placement : goal.decreases-loop-placement
decreases-loop-placement g l = count_places_held l.places l.fn.asked.piece
