-- The tests of `LeadsToRest` and `IsPlace`, and the places of a piece.
use Rattle.std.specs.Prelude.{ℕ, Bool, false, ◌&&◌, List, filter}
use Rattle.std.specs.List.{list_all}
use Rattle.std.specs.Option.{option_map_or}
use Rattle.lane_board.specs.Field.{Field}
use Rattle.srs.specs.declared.piece.Piece.{Piece}
use Rattle.srs.specs.declared.placement.Placement.{Placement}
use Rattle.srs.specs.Canonical.{is_canonical}
use Rattle.srs.specs.Cells.{cells_of}
use Rattle.srs.specs.Kick.{Table}
use Rattle.srs.specs.Placements.{placements_of}
use Rattle.srs.specs.SameCells.{is_same_cells}
use Rattle.moves.specs.declared.key.Key.{Key}
use Rattle.moves.specs.declared.key.DropMode.{DropMode}
use Rattle.moves.specs.Keys.{allows}
use Rattle.moves.specs.Leads.{spawned, state_after}
use Rattle.moves.specs.Rest.{rest_of}
use Rattle.moves.specs.Step.{step_of}
use Rattle.moves.specs.Walk.{some_keys_lead}

-- a piece has at most so many free states: 4 rotations, 23 rows, 10 columns
abbrev pub most_states : ℕ
most_states = 920

-- the rest of a state has the placement's cells
unfoldable pub comes_to_rest : Field → Placement → Placement → Bool
comes_to_rest F placement state = is_same_cells (cells_of (rest_of F state)) (cells_of placement)

-- the test of `LeadsToRest`
unfoldable pub leads_to_rest : Table → Field → DropMode → Placement → List Key → Bool
leads_to_rest table F mode placement keys =
    list_all (allows mode) keys
    && option_map_or (comes_to_rest F placement) (state_after table F placement.piece keys) false

-- The placement is canonical, and some allowed keys lead from the spawn to a state that comes to rest on its cells.
-- Where such keys exist, so do such keys with no state twice.
unfoldable pub is_place : Table → Field → DropMode → Placement → Bool
is_place table F mode placement =
    is_canonical placement
    && option_map_or (some_keys_lead (step_of table F) (allows mode) (comes_to_rest F placement) most_states)
    (spawned F placement.piece) false

-- the placements of a piece that legal keys reach, in order
unfoldable pub places_in : Table → DropMode → Field → Piece → List Placement
places_in table mode F piece = filter (is_place table F mode) (placements_of piece)
