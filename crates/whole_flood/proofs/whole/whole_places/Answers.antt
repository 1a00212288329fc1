-- What is folded are the places.
use Rattle.std.proofs.Common.{rules}
use Rattle.whole_flood.proofs.PlaceLemmas.{places_by}
use Rattle.place_sets.proofs.CallerLemmas.{states_within}
use Rattle.whole_flood.proofs.whole.whole_places.Goals as goal

pub returns : goal.returns
returns c = search (rules, places_by, states_within)
