-- How a search is seen.
use Rattle.std.specs.Prelude.{ℕ, ◌-◌, List, Option, take}
use Rattle.srs.specs.declared.placement.Placement.{Placement}
use Rattle.dead_memo.specs.Memo.{kept}
use Rattle.dead_memo.specs.Question.{Question}
use Rattle.enumerate.specs.declared.search.Search.{Search}
use Rattle.enumerate.specs.Events.{Event, found, floods}
use Rattle.enumerate.specs.Items.{items_of}
use Rattle.enumerate.specs.Rest.{events_from, whole_from}
use Rattle.problem.specs.SolutionList.{View}

unfoldable pub view_of : Search → View
view_of search = record { problem = search.problem; queue = items_of search.queue; bound = items_of search.bound }

-- the sequence after which the search was started, if any
unfoldable pub after_given : Search → Option (List Placement)
after_given search = items_of search.after

-- the events of the whole search, and those that are still to come
unfoldable pub whole_of : Search → List Event
whole_of search = whole_from search.problem (items_of search.queue) (items_of search.after)

unfoldable pub events_to_come : Search → List Event
events_to_come search = events_from search.problem (items_of search.queue) (items_of search.after) search.pending
    (take search.depth search.frames)

-- the solutions that are still to come, in order
unfoldable pub solutions : Search → List (List Placement)
solutions search = found (events_to_come search)

-- how many floods the search has made
unfoldable pub work : Search → ℕ
work search = floods (whole_of search) - floods (events_to_come search)

-- the boards that it keeps, each found to have no tiling
unfoldable pub dead_questions : Search → List Question
dead_questions search = kept search.notes.tilings.dead
