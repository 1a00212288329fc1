-- What a text that spells no table is refused for.
use Rattle.std.specs.Prelude.{◌≡◌, ℕ, IsTrue, List, [], ◌∷◌, ◌++◌, length, Some, Result, Ok, Err}
use Rattle.srs.specs.Forms.{LeavesForm}
use Rattle.srs.specs.Kick.{Table}
use Rattle.srs.specs.Piece.{piece_with_letter}
use Rattle.srs.specs.Rotation.{rotation_letter}
use Rattle.kick_file.specs.declared.fault.KickFault.{KickFault}
use Rattle.kick_file.specs.declared.fault.KickFault.TheVariants.{Unexpected, RepeatedEntry}
use Rattle.kick_file.specs.declared.turned.TurnedPiece.{TurnedPiece}
use Rattle.kick_file.specs.Form.{Entry, SpellsEntry, SpellsEntries, turned_of, is_repeated, are_distinct, table_of_entries}

-- some entries, each with a `;` after it
abbrev pub SpellsBefore : List ℕ → List Entry → Type 0
SpellsBefore text [] = text ≡ []
SpellsBefore text (entry ∷ entries) =
    (front : List ℕ) × (rest : List ℕ) × (text ≡ front ++ 59 ∷ rest) × SpellsEntry front entry
    × SpellsBefore rest entries

-- the text spells entries of different pieces and rotations, and this is their table
pub record SpellsTable (text : List ℕ) (table : Table) : Type 0 where
  pub entries : List Entry
  pub spelled : SpellsEntries text entries
  pub distinct : IsTrue (are_distinct (turned_of entries))
  pub is : table ≡ table_of_entries entries

-- an entry begins at this place, whose first two letters are those of an entry before it
pub record Repeats (text : List ℕ) (place : ℕ) : Type 0 where
  pub front : List ℕ
  pub rest : List ℕ
  pub entries : List Entry
  pub turned : TurnedPiece
  pub letter : ℕ
  pub before : SpellsBefore front entries
  pub distinct : IsTrue (are_distinct (turned_of entries))
  pub named : piece_with_letter letter ≡ Some turned.piece
  pub whole : text ≡ front ++ letter ∷ rotation_letter turned.rotation ∷ rest
  pub repeated : IsTrue (is_repeated (turned_of entries) turned)
  pub starts : place ≡ length front

-- the text spells some entries, equal pieces and rotations among them or not
abbrev pub SpellsSome : List ℕ → Type 0
SpellsSome text = (entries : List Entry) × SpellsEntries text entries

-- nothing is repeated, and at this place stands a byte that no text of entries goes on with, or the text ends there
-- and spells no entries
pub record IsUnexpected (text : List ℕ) (place : ℕ) : Type 0 where
  pub leaves : LeavesForm SpellsSome text place
  pub first : (other : ℕ) → Repeats text other → ⊥

-- what a text is read as
abbrev pub IsReadAs : List ℕ → Result Table KickFault → Type 0
IsReadAs text (Ok table) = SpellsTable text table
IsReadAs text (Err (Unexpected place)) = IsUnexpected text place
IsReadAs text (Err (RepeatedEntry place)) = Repeats text place
