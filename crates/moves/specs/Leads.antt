-- Where a list of keys leads from the spawn.
use Rattle.std.specs.Prelude.{if◌then◌else◌, Option, Some, None, List, fold, option_and_then}
use Rattle.lane_board.specs.Field.{Field}
use Rattle.srs.specs.declared.piece.Piece.{Piece}
use Rattle.srs.specs.declared.rotation.Rotation.TheVariants.{Spawn}
use Rattle.srs.specs.declared.placement.Placement.{Placement}
use Rattle.srs.specs.Kick.{Table}
use Rattle.well.specs.Free.{is_free}
use Rattle.moves.specs.declared.key.Key.{Key}
use Rattle.moves.specs.Step.{step_of}

-- a piece appears in rotation 0 with its pivot in column 4 and row 20
abbrev pub spawn_of : Piece → Placement
spawn_of piece = record { piece = piece; rotation = Spawn; x = 4; y = 20 }

-- the spawn where it is free
unfoldable pub spawned : Field → Piece → Option Placement
spawned F piece = if is_free F (spawn_of piece) then Some (spawn_of piece) else None

-- one more key: nothing where nothing is reached or the key makes no move
abbrev pub pressed : Table → Field → Option Placement → Key → Option Placement
pressed table F reached key = option_and_then (λ state. step_of table F state key) reached

-- the state to which the keys lead, or nothing
unfoldable pub state_after : Table → Field → Piece → List Key → Option Placement
state_after table F piece keys = fold (pressed table F) (spawned F piece) keys
