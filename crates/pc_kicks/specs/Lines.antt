-- The lines that `kicks` writes of a table of offsets.
use Rattle.std.specs.Prelude.{ℕ, List, [], ◌∷◌, ◌++◌}
use Rattle.std.specs.List.{flat_map}
use Rattle.srs.specs.declared.piece.Piece.{Piece}
use Rattle.srs.specs.declared.rotation.Rotation.{Rotation}
use Rattle.srs.specs.Kick.{Table, kicks_of}
use Rattle.srs.specs.Piece.{all_pieces, piece_letter}
use Rattle.srs.specs.Rotation.{all_rotations, anticlockwise_of, clockwise_of, rotation_letter}
use Rattle.kick_file.specs.Form.{offsets_form}
use Rattle.kick_file.specs.Printed.{entry_form, entry_of}

-- the line of an entry, as `TR:0,0/1,0/1,-1/0,2/1,2`
abbrev pub entry_line : Table → Piece → Rotation → List ℕ
entry_line table piece rotation = entry_form (entry_of table piece rotation) ++ 10 ∷ []

-- the line of a turn, as `T0R:0,0/-1,0/-1,1/0,-2/-1,-2`; a kick has fewer than ten columns and rows
unfoldable pub turn_line : Table → Piece → Rotation → Rotation → List ℕ
turn_line table piece from to =
    piece_letter piece ∷ rotation_letter from ∷ rotation_letter to ∷ 58
    ∷ (offsets_form (kicks_of table piece from to) ++ 10 ∷ [])

-- the turn clockwise, and then the one anticlockwise
abbrev pub both_turns : Table → Piece → Rotation → List ℕ
both_turns table piece from =
    turn_line table piece from (clockwise_of from) ++ turn_line table piece from (anticlockwise_of from)

-- the entries of a piece, for each rotation in the order 0, R, 2, L
unfoldable pub entry_lines : Table → Piece → List ℕ
entry_lines table piece = flat_map (entry_line table piece) all_rotations

-- the turns of a piece, in the same order
unfoldable pub turn_lines : Table → Piece → List ℕ
turn_lines table piece = flat_map (both_turns table piece) all_rotations

-- the entries of all pieces, in the order of their codes, and then the kicks of all turns
unfoldable pub kicks_form : Table → List ℕ
kicks_form table = flat_map (entry_lines table) all_pieces ++ flat_map (turn_lines table) all_pieces
