-- How a table is printed.
use Rattle.std.specs.Prelude.{ℕ, List, ◌∷◌, map}
use Rattle.std.specs.List.{flat_map, join_with_byte}
use Rattle.srs.specs.declared.piece.Piece.{Piece}
use Rattle.srs.specs.declared.rotation.Rotation.{Rotation}
use Rattle.srs.specs.Kick.{Table}
use Rattle.srs.specs.Piece.{all_pieces, piece_letter}
use Rattle.srs.specs.Rotation.{all_rotations, rotation_letter}
use Rattle.kick_file.specs.Form.{Entry, offsets_form}

-- an entry with the capital letter of its piece
abbrev pub entry_form : Entry → List ℕ
entry_form entry =
    piece_letter entry.turned.piece ∷ rotation_letter entry.turned.rotation ∷ 58 ∷ offsets_form entry.offsets

-- the entry of a piece in a rotation
abbrev pub entry_of : Table → Piece → Rotation → Entry
entry_of table piece rotation =
    record { turned = record { piece = piece; rotation = rotation }; offsets = table piece rotation }

-- an entry for each piece, in the order of codes, and each rotation, in the order 0, R, 2, L
abbrev pub entries_of : Table → List Entry
entries_of table = flat_map (λ piece. map (entry_of table piece) all_rotations) all_pieces

-- they are divided by `;`
unfoldable pub table_form : Table → List ℕ
table_form table = join_with_byte 59 (map entry_form (entries_of table))
