-- The law is a lemma.
use Rattle.moves.proofs.PlaceTest.{is_place-decides}
use Rattle.moves.proofs.laws.places_are_decided.Goals as goal

pub returns : goal.returns
returns c = is_place-decides
