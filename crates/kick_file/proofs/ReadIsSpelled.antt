-- What is read of a text is what it spells.
use Rattle.std.proofs.Common.{◌≡◌, ℕ, zero, suc, ◌-◌, ◌≤◌, pos, true, List, [], ◌∷◌, ◌++◌, length, replicate, refl, ap, sym, subst, ◌∙◌, arith, Some, append_assoc, rules}
use Rattle.std.specs.List.{fold, list_all, flat_map}
use Rattle.std.proofs.lemmas.Bool.{and_parts}
use Rattle.std.proofs.lemmas.List.{length-append, length-replicate, append-nil}
use Rattle.std.proofs.lemmas.Grind.{common_steps}
use Rattle.srs.specs.Cells.{Cell}
use Rattle.srs.specs.Kick.{Table, is_small_move}
use Rattle.srs.specs.Piece.{piece_with_letter}
use Rattle.srs.specs.Rotation.{rotation_letter}
use Rattle.kick_file.specs.declared.turned.TurnedPiece.{TurnedPiece}
use Rattle.kick_file.specs.Form.{Entry, SpellsEntry, SpellsEntries, offset_form, offsets_form, table_with_entry}
use Rattle.srs.specs.Forms.{IsFront}
use Rattle.kick_file.specs.Faults.{SpellsBefore, SpellsSome}
use Rattle.kick_file.proofs.Entries.{HasFive, with_entry-five}

-- entries with a `;` after each, and one more
pub one_more : (front text : List ℕ) (entries : List Entry) (entry : Entry) → SpellsBefore front entries → SpellsEntry text entry
    → SpellsEntries (front ++ text) (entries ++ entry ∷ [])
one_more front text [] entry before spelled = subst (λ f. SpellsEntry (f ++ text) entry) (sym before) spelled
one_more front text (first ∷ []) entry before spelled =
    (before.0, before.1 ++ text, ap (λ t. t ++ text) before.2 ∙ append_assoc before.0 (59 ∷ before.1) text, before.3, one_more before.1 text [] entry before.4 spelled)
one_more front text (first ∷ next ∷ entries) entry before spelled =
    (before.0, before.1 ++ text, ap (λ t. t ++ text) before.2 ∙ append_assoc before.0 (59 ∷ before.1) text, before.3, one_more before.1 text (next ∷ entries) entry before.4 spelled)

pub one_more_before : (front text : List ℕ) (entries : List Entry) (entry : Entry) → SpellsBefore front entries → SpellsEntry text entry
    → SpellsBefore (front ++ (text ++ 59 ∷ [])) (entries ++ entry ∷ [])
one_more_before front text [] entry before spelled = (text, [], ap (λ f. f ++ (text ++ 59 ∷ [])) before, spelled, refl)
one_more_before front text (first ∷ entries) entry before spelled =
    search (rules, append_assoc, one_more_before before.1 text entries entry before.4 spelled)

-- their table has five offsets for each
pub before_five : (front : List ℕ) (table : Table) (entries : List Entry) → SpellsBefore front entries → HasFive table → HasFive (fold table_with_entry table entries)
before_five front table [] before five = five
before_five front table (entry ∷ entries) before five = before_five before.1 (table_with_entry table entry) entries before.4 (with_entry-five table entry before.3.five five)

-- offsets with a `/` after each, and with one before each
abbrev pub ended_offsets : List Cell → List ℕ
ended_offsets cells = flat_map (λ cell. offset_form cell ++ 47 ∷ []) cells

abbrev pub started_offsets : List Cell → List ℕ
started_offsets cells = flat_map (λ cell. 47 ∷ offset_form cell) cells

offsets_start : (cell : Cell) (cells : List Cell) → offsets_form (cell ∷ cells) ≡ offset_form cell ++ started_offsets cells
offsets_start cell [] = sym (append-nil (offset_form cell))
offsets_start cell (next ∷ cells) = ap (λ t. offset_form cell ++ 47 ∷ t) (offsets_start next cells)

pub offsets_split : (cells : List Cell) (cell : Cell) (more : List Cell) → offsets_form (cells ++ cell ∷ more) ≡ ended_offsets cells ++ (offset_form cell ++ started_offsets more)
offsets_split [] cell more = offsets_start cell more
offsets_split (first ∷ []) cell more = search (rules, offsets_start, append-nil, append_assoc)
offsets_split (first ∷ second ∷ cells) cell more =
    search (rules, append_assoc, offsets_split (second ∷ cells) cell more)

pub all_small : (cells : List Cell) (cell : Cell) (more : List Cell) → list_all is_small_move cells ≡ true → is_small_move cell ≡ true → list_all is_small_move more ≡ true
    → list_all is_small_move (cells ++ cell ∷ more) ≡ true
all_small cells cell more small one rest = grind (arith, common_steps, and_parts)

-- within an entry: what stands before it, its letters, the offsets that are whole, each with a `/`, and a part of one
pub record InEntry (text : List ℕ) (entries : List Entry) (turned : TurnedPiece) (cells : List Cell) (part : List ℕ) : Type 0 where
  pub before : List ℕ
  pub letter : ℕ
  pub spelled : SpellsBefore before entries
  pub named : piece_with_letter letter ≡ Some turned.piece
  pub small : list_all is_small_move cells ≡ true
  pub whole : text ≡ before ++ letter ∷ rotation_letter turned.rotation ∷ 58 ∷ (ended_offsets cells ++ part)

-- one more byte of a part
pub longer : (text : List ℕ) (entries : List Entry) (turned : TurnedPiece) (cells : List Cell) (part : List ℕ) (byte : ℕ) → InEntry text entries turned cells part
    → InEntry (text ++ byte ∷ []) entries turned cells (part ++ byte ∷ [])
longer text entries turned cells part byte stands = search (rules, append_assoc)

-- an entry whose offsets are whole
pub entry_whole : (turned : TurnedPiece) (letter : ℕ) (cells : List Cell) → piece_with_letter letter ≡ Some turned.piece → length cells ≡ 5 → list_all is_small_move cells ≡ true
    → SpellsEntry (letter ∷ rotation_letter turned.rotation ∷ 58 ∷ offsets_form cells) (record { turned = turned; offsets = cells })
entry_whole turned letter cells named five small = record { letter = letter; named = named; five = five; small = small; whole = refl }

abbrev pub origin : Cell
origin = (pos 0, pos 0)

zeros_small : (n : ℕ) → list_all is_small_move (replicate n origin) ≡ true
zeros_small zero = refl
zeros_small (suc n) = zeros_small n

-- a part of an offset that may be made whole stands in a text that may be
pub part_front : (text : List ℕ) (entries : List Entry) (turned : TurnedPiece) (cells : List Cell) (part more : List ℕ) (cell : Cell)
    → InEntry text entries turned cells part → length cells ≤ 4 → part ++ more ≡ offset_form cell → is_small_move cell ≡ true → IsFront SpellsSome text
part_front text entries turned cells part more cell stands room made small =
    let zeros = replicate (4 - length cells) origin in
    let all = cells ++ cell ∷ zeros in
    let head = stands.letter ∷ rotation_letter turned.rotation ∷ 58 ∷ [] in
    let count : length all ≡ 5 = omega (arith, room, length-append cells (cell ∷ zeros), length-replicate (4 - length cells) origin) in
    let form : text ++ (more ++ started_offsets zeros) ≡ stands.before ++ stands.letter ∷ rotation_letter turned.rotation ∷ 58 ∷ offsets_form all =
    search (rules, append_assoc, offsets_split) in
    record {
      rest = more ++ started_offsets zeros;
      form = subst SpellsSome (sym form) (
        entries ++ (record { turned = turned; offsets = all }) ∷ [],
        one_more stands.before _ entries _ stands.spelled
            (entry_whole turned stands.letter all stands.named count (all_small cells cell zeros stands.small small (zeros_small (4 - length cells)))),
      );
    }
