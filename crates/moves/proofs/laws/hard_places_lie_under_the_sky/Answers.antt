-- The clause is a lemma.
use Rattle.moves.proofs.HardPlaces.{hard_places}
use Rattle.moves.proofs.laws.hard_places_lie_under_the_sky.Goals as goal

pub returns : goal.returns
returns c = hard_places
