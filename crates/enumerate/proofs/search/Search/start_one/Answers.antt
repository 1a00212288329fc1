-- What a search has still to give is the list above its bound.
use Rattle.enumerate.proofs.SearchFacts.{search-list}
use Rattle.enumerate.proofs.search.Search.start_one.Goals as goal

pub returns-clause-list : goal.returns-clause-list
returns-clause-list c = search-list c.new-in-Ok.result
