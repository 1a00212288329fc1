-- The events of a whole search, and those that are still to come.
use Rattle.std.specs.Prelude.{Bool, true, false, Option, Some, None, List, []}
use Rattle.srs.specs.declared.piece.Piece.{Piece}
use Rattle.srs.specs.declared.placement.Placement.{Placement}
use Rattle.srs.specs.Rules.{table_of}
use Rattle.problem.specs.declared.problem.Problem.{Problem}
use Rattle.enumerate.specs.declared.frame.Frame.{Frame}
use Rattle.problem.specs.Problem.{needed_of}
use Rattle.enumerate.specs.SearchState.{root_of}
use Rattle.enumerate.specs.Events.{Event, begun, sought}
use Rattle.enumerate.specs.Frames.{stacked}

-- from the start, or from after a given sequence on
unfoldable pub whole_from : Problem → Option (List Piece) → Option (List Placement) → List Event
whole_from problem queue None = begun (needed_of problem) (root_of problem queue)
whole_from problem queue (Some given) = sought (needed_of problem) [] (root_of problem queue) given

-- all of them where the search has yet to go to its start, and else those of the frames in use
unfoldable pub events_from : Problem → Option (List Piece) → Option (List Placement) → Bool → List Frame → List Event
events_from problem queue after true frames = whole_from problem queue after
events_from problem queue after false frames = stacked (table_of problem.rules) problem.drop_mode [] frames
