-- The list is a lemma's.
use Rattle.srs.proofs.PlacementLemmas.{placements_of-list}
use Rattle.srs.proofs.laws.placements_are_listed.Goals as goal

pub returns : goal.returns
returns c = placements_of-list
