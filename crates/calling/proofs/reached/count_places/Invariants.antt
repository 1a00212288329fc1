-- So many places were taken out.
use Rattle.std.proofs.Common.{length}
use Rattle.calling.proofs.TakenPlaces.{IsCounted, held_list}
use Rattle.calling.proofs.reached.count_places.Given as goal

abbrev pub invariant-places : goal.invariant-places
invariant-places l = IsCounted l.initial.held l.held l.count

abbrev pub decreases-places : goal.decreases-places
decreases-places l = length (held_list l.held)
