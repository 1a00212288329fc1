-- What frames stand for: the events that are still to come.
use Rattle.std.specs.Prelude.{ℕ, suc, ◌+◌, Bool, true, ◌&&◌, Option, Some, None, List, [], ◌∷◌, ◌++◌, filter, drop, nat_le}
use Rattle.std.specs.List.{flat_map}
use Rattle.std.specs.Option.{option_to_list}
use Rattle.srs.specs.declared.placement.Placement.{Placement}
use Rattle.srs.specs.Kick.{Table}
use Rattle.srs.specs.Piece.{all_pieces}
use Rattle.srs.specs.Order.{placement_cmp}
use Rattle.srs.specs.Placements.{placements_of}
use Rattle.srs.specs.Rising.{is_above}
use Rattle.moves.specs.declared.key.DropMode.{DropMode}
use Rattle.place_sets.specs.declared.low_held.LowPlaces.{LowPlaces}
use Rattle.place_sets.specs.LowPlaces.{holds, piece_of}
use Rattle.enumerate.specs.declared.frame.Frame.{Frame}
use Rattle.enumerate.specs.Setups.{state_of}
use Rattle.enumerate.specs.Events.{Event, entered, tried_in_turn, enter}

-- the held placements above the one that was entered last
unfoldable pub places_left : Option LowPlaces → Option Placement → List Placement
places_left None last = []
places_left (Some places) last =
    filter (λ q. holds places q && is_above placement_cmp last q) (placements_of (piece_of places))

-- the placement that was entered last, as a sequence
abbrev pub entered_placement : Frame → List Placement
entered_placement frame = option_to_list frame.entered

-- what is still to be done at a frame
unfoldable pub events_of : Table → DropMode → List Placement → Frame → List Event
events_of table mode prefix frame =
    flat_map (entered (enter frame.setup.left) prefix (state_of table mode frame.setup))
    (places_left frame.places frame.entered)
    ++ tried_in_turn (enter frame.setup.left) prefix (state_of table mode frame.setup) (drop frame.tried all_pieces)

-- what is still to be done at frames, from the first state on: the deepest one comes first
unfoldable pub stacked : Table → DropMode → List Placement → List Frame → List Event
stacked table mode prefix [] = []
stacked table mode prefix (frame ∷ frames) =
    stacked table mode (prefix ++ entered_placement frame) frames ++ events_of table mode prefix frame

-- the placements that lead to the deepest frame, and the one entered there
unfoldable pub path_of : List Frame → List Placement
path_of frames = flat_map entered_placement frames

-- there is room for the frames below
unfoldable pub has_room : ℕ → List Frame → Bool
has_room depth [] = true
has_room depth (frame ∷ frames) = nat_le (frame.setup.left + depth) 19 && has_room (suc depth) frames
