-- What a search does, one event after the other: it passes by, it makes a flood, or it finds a solution.
use Rattle.std.specs.Prelude.{ℕ, zero, suc, ◌+◌, ◌&&◌, ◌==◌, if◌then◌else◌, Some, List, [], ◌∷◌, ◌++◌, filter, drop}
use Rattle.std.specs.List.{flat_map}
use Rattle.srs.specs.declared.piece.Piece.{Piece}
use Rattle.srs.specs.declared.placement.Placement.{Placement}
use Rattle.srs.specs.Piece.{all_pieces, piece_code}
use Rattle.srs.specs.Order.{placement_cmp}
use Rattle.srs.specs.Rising.{is_above}
use Rattle.moves.specs.PlaceTest.{is_place}
use Rattle.well.specs.LockLaws.{is_below}
use Rattle.enumerate.specs.SearchState.{SearchState, after_of, may_play, places_at, is_live}

pub data Event : Type 0 where
  Tick : Event
  Flood : Event
  Found : List Placement → Event

-- the solutions that are found, in order
unfoldable pub found : List Event → List (List Placement)
found [] = []
found (Tick ∷ events) = found events
found (Flood ∷ events) = found events
found (Found sequence ∷ events) = sequence ∷ found events

-- how many floods are made
unfoldable pub floods : List Event → ℕ
floods [] = 0
floods (Tick ∷ events) = floods events
floods (Flood ∷ events) = floods events + 1
floods (Found sequence ∷ events) = floods events

-- what is done after a prefix, from the state there on
abbrev pub Walk : Type 0
Walk = List Placement → SearchState → List Event

-- a placement is entered where it lies below the rows left, and else nothing is done
unfoldable pub entered : Walk → List Placement → SearchState → Placement → List Event
entered walk prefix n q = if is_below n.rows q then walk (prefix ++ q ∷ []) (after_of n q) else []

-- a kind that may be played is flooded, and each of its places entered; at another kind nothing is done
unfoldable pub tried : Walk → List Placement → SearchState → Piece → List Event
tried walk prefix n piece =
    if may_play n.line piece then Flood ∷ flat_map (entered walk prefix n) (places_at n piece) else []

-- these kinds are tried, one after the other
unfoldable pub tried_in_turn : Walk → List Placement → SearchState → List Piece → List Event
tried_in_turn walk prefix n pieces = flat_map (tried walk prefix n) pieces ++ Tick ∷ []

-- With so many placements to come: where none is, the prefix is a solution where no row is left, and else there is
-- nothing to do where it is not live.
unfoldable pub enter : ℕ → Walk
enter zero prefix n = (if n.rows == 0 then Found prefix else Tick) ∷ []
enter (suc left) prefix n = if is_live left n then Tick ∷ tried_in_turn (enter left) prefix n all_pieces else []

-- the same at the beginning, where the empty prefix is no solution
unfoldable pub begun : ℕ → SearchState → List Event
begun zero n = []
begun (suc left) n = if is_live left n then tried_in_turn (enter left) [] n all_pieces else []

-- What is done after a given sequence: its first placement is flooded where it may be played, and where it is a place
-- below the rows left, what is done after the rest of the sequence comes first; then the later places and the later
-- kinds.
unfoldable pub sought : ℕ → List Placement → SearchState → List Placement → List Event
sought zero prefix n given = []
sought (suc left) prefix n [] = if is_live left n then tried_in_turn (enter left) prefix n all_pieces else []
sought (suc left) prefix n (q ∷ given) =
    if is_live left n then
    (if may_play n.line q.piece then
    Flood ∷ ((if is_place n.table n.field n.mode q && is_below n.rows q
    then sought left (prefix ++ q ∷ []) (after_of n q) given else [])
    ++ flat_map (entered (enter left) prefix n) (filter (is_above placement_cmp (Some q)) (places_at n q.piece)))
    else [])
    ++ tried_in_turn (enter left) prefix n (drop (piece_code q.piece) all_pieces)
    else []
