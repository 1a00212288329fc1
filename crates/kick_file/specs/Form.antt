-- The form of a table of offsets as text, and the table that it spells.
use Rattle.std.specs.Prelude.{◌≡◌, ℕ, ◌+◌, Bool, true, IsTrue, not, ◌&&◌, ◌==◌, if◌then◌else◌, ℤ, pos, negsuc, List, [], ◌∷◌, ◌++◌, length, map, fold, Some}
use Rattle.std.specs.List.{list_all, list_any, join_with_byte}
use Rattle.srs.specs.Cells.{Cell}
use Rattle.srs.specs.Kick.{Table, srs_table, is_small_move}
use Rattle.srs.specs.Piece.{piece_code, piece_with_letter}
use Rattle.srs.specs.Rotation.{rotation_index, rotation_letter}
use Rattle.kick_file.specs.declared.turned.TurnedPiece.{TurnedPiece}

-- a number of an offset, which is small, is its digit, after `-` where it is below 0
abbrev pub signed_digit : ℤ → List ℕ
signed_digit (pos n) = (48 + n) ∷ []
signed_digit (negsuc n) = 45 ∷ (49 + n) ∷ []

-- an offset is its columns, a comma and its rows
abbrev pub offset_form : Cell → List ℕ
offset_form offset = signed_digit offset.0 ++ 44 ∷ signed_digit offset.1

-- offsets are divided by `/`
abbrev pub offsets_form : List Cell → List ℕ
offsets_form offsets = join_with_byte 47 (map offset_form offsets)

-- the five offsets of a piece in a rotation
pub record Entry : Type 0 where
  pub turned : TurnedPiece
  pub offsets : List Cell

-- an entry is a letter of the piece, capital or small, the letter of the rotation, a colon, and five offsets of at most
-- three columns and three rows
pub record SpellsEntry (text : List ℕ) (entry : Entry) : Type 0 where
  pub letter : ℕ
  pub named : piece_with_letter letter ≡ Some entry.turned.piece
  pub five : length entry.offsets ≡ 5
  pub small : IsTrue (list_all is_small_move entry.offsets)
  pub whole : text ≡ letter ∷ rotation_letter entry.turned.rotation ∷ 58 ∷ offsets_form entry.offsets

-- entries are divided by `;`
abbrev pub SpellsEntries : List ℕ → List Entry → Type 0
SpellsEntries text [] = text ≡ []
SpellsEntries text (entry ∷ []) = SpellsEntry text entry
SpellsEntries text (entry ∷ next ∷ entries) =
    (front : List ℕ) × (rest : List ℕ) × (text ≡ front ++ 59 ∷ rest) × SpellsEntry front entry
    × SpellsEntries rest (next ∷ entries)

-- whether two are the same piece in the same rotation
abbrev pub is_same : TurnedPiece → TurnedPiece → Bool
is_same one other =
    piece_code one.piece == piece_code other.piece && rotation_index one.rotation == rotation_index other.rotation

-- the pieces and rotations of entries
abbrev pub turned_of : List Entry → List TurnedPiece
turned_of entries = map (λ entry. entry.turned) entries

-- whether a piece in its rotation stands among these
abbrev pub is_repeated : List TurnedPiece → TurnedPiece → Bool
is_repeated given turned = list_any (is_same turned) given

-- whether no two of them are the same
abbrev pub are_distinct : List TurnedPiece → Bool
are_distinct [] = true
are_distinct (turned ∷ given) = not (is_repeated given turned) && are_distinct given

-- the table with the offsets of an entry
abbrev pub table_with_entry : Table → Entry → Table
table_with_entry table entry piece rotation =
    if is_same (record { piece = piece; rotation = rotation }) entry.turned then entry.offsets else table piece rotation

-- the table of the Super Rotation System, with the offsets of these entries
abbrev pub table_of_entries : List Entry → Table
table_of_entries entries = fold table_with_entry srs_table entries
