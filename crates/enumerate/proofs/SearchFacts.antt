-- What holds of every search.
use Rattle.enumerate.specs.declared.search.Search.{Search}
use Rattle.enumerate.specs.Items.{items_of}
use Rattle.problem.specs.SolutionList.{IsList}
use Rattle.enumerate.specs.ViewOf.{events_to_come, solutions, view_of}
use Rattle.enumerate.proofs.SearchLists.{above-list}

pub search-list : (s : Search) → IsList (view_of s) (solutions s)
unfolding view_of solutions events_to_come
search-list s = above-list s.problem s.fit (items_of s.queue) (items_of s.bound) (solutions s) s.listed
