-- What the loops that print a table write.
use Rattle.std.specs.Prelude.{ℕ, Bool, ◌&&◌, ℤ, pos, int_le, List, ◌∷◌, ◌++◌, []}
use Rattle.std.specs.List.{flat_map}
use Rattle.srs.specs.declared.piece.Piece.{Piece}
use Rattle.srs.specs.declared.rotation.Rotation.{Rotation}
use Rattle.srs.specs.Cells.{Cell, minus}
use Rattle.srs.specs.Kick.{Table}
use Rattle.srs.specs.Rotation.{all_rotations}
use Rattle.kick_file.specs.Printed.{entry_form, entry_of}

-- from -9 to 9
abbrev pub is_one_digit : ℤ → Bool
is_one_digit z = int_le (minus 9) z && int_le z (pos 9)

-- at most nine columns and nine rows
abbrev pub is_short_move : Cell → Bool
is_short_move move = is_one_digit move.0 && is_one_digit move.1

-- an entry with a `;` after it
abbrev pub ended_entry : Table → Piece → Rotation → List ℕ
ended_entry table piece rotation = entry_form (entry_of table piece rotation) ++ 59 ∷ []

-- the same for each rotation of a piece
unfoldable pub piece_form : Table → Piece → List ℕ
piece_form table piece = flat_map (ended_entry table piece) all_rotations
