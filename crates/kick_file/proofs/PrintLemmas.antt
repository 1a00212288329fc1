-- What is printed of a table spells it.
use Rattle.std.proofs.Common.{◌≡◌, ℕ, ℤ, ◌<◌, ◌-◌, ◌≤◌, true, List, [], ◌∷◌, ◌++◌, length, map, take, drop, get_or, refl, ap, sym, ◌∙◌, arith, Option, Some, Ok, append_assoc, rules}
use Rattle.std.specs.List.{list_all, flat_map, AllByRecursion, join_with_byte}
use Rattle.std.specs.Prelude.{option_to_list, IsSome}
use Rattle.std.proofs.Math.Path.{fun_ext}
use Rattle.std.proofs.lemmas.List.{append-nil, length_push, same_from_push, take-append-drop, take_all}
use Rattle.std.proofs.Math.Seq.{take-append_seam}
use Rattle.std.proofs.lemmas.List.Folds.{flat_map-map, list_all-map}
use Rattle.std.proofs.lemmas.Grind.{flat_map-append, common_steps}
use Rattle.std.proofs.lemmas.Bool.{and_from}
use Rattle.srs.specs.declared.piece.Piece.{Piece}
use Rattle.srs.specs.declared.rotation.Rotation.{Rotation}
use Rattle.srs.specs.Cells.{Cell}
use Rattle.srs.specs.declared.offset.Offset.{Offset}
use Rattle.srs.specs.Kick.{Table, IsSmallTable, is_small_move, kick_in, offset_in, pair_of}
use Rattle.srs.specs.Piece.{all_pieces, piece_letter, piece_with_letter}
use Rattle.srs.specs.Rotation.{all_rotations}
use Rattle.srs.proofs.CallerLemmas.{and_first, and_second, list_all_each}
use Rattle.kick_file.specs.Form.{Entry, SpellsEntries, offset_form, offsets_form, table_of_entries}
use Rattle.kick_file.specs.Faults.{SpellsTable}
use Rattle.kick_file.specs.Printed.{entry_form, entry_of, entries_of, table_form}
use Rattle.kick_file.specs.Printing.{ended_entry, is_one_digit, is_short_move, piece_form}
use Rattle.kick_file.specs.Reading.{is_small_number, kick_text}
use Rattle.kick_file.proofs.Numbers.{each_small}
use Rattle.kick_file.proofs.SpelledIsRead.{table_read}

-- the offsets after the first
pub offsets_join : (first : Cell) (rest : List Cell) → offset_form first ++ flat_map (λ offset. 47 ∷ offset_form offset) rest ≡ offsets_form (first ∷ rest)
offsets_join first [] = append-nil (offset_form first)
offsets_join first (next ∷ rest) = ap (λ t. offset_form first ++ 47 ∷ t) (offsets_join next rest)

-- all four rotations, and all seven pieces
pub piece_ends : (now base : List ℕ) (table : Table) (piece : Piece) (index : ℕ) → 4 ≤ index → index ≤ 4
    → now ≡ base ++ flat_map (ended_entry table piece) (take index all_rotations) → now ≡ base ++ piece_form table piece
unfolding piece_form
piece_ends now base table piece index low high is = search rules

-- entries, with a `;` after each
abbrev ended : Entry → List ℕ
ended entry = entry_form entry ++ 59 ∷ []

ended_join : (entry : Entry) (entries : List Entry) → flat_map ended (entry ∷ entries) ≡ join_with_byte 59 (map entry_form (entry ∷ entries)) ++ 59 ∷ []
ended_join entry [] = append-nil (ended entry)
ended_join entry (next ∷ entries) = search (rules, append_assoc, ended_join next entries)

ended_joined : (entries : List Entry) → 0 < length entries → flat_map ended entries ≡ join_with_byte 59 (map entry_form entries) ++ 59 ∷ []
ended_joined [] some = absurd (omega (arith, some))
ended_joined (entry ∷ entries) some = ended_join entry entries

entries_at : Table → Piece → List Entry
entries_at table piece = map (entry_of table piece) all_rotations

pieces_join : (table : Table) (pieces : List Piece) → flat_map (piece_form table) pieces ≡ flat_map ended (flat_map (entries_at table) pieces)
unfolding piece_form entries_at
pieces_join table [] = refl
pieces_join table (piece ∷ pieces) = search (rules, entries_at, flat_map-map, flat_map-append, pieces_join table pieces)

pub table_ends : (now popped : List ℕ) (last : Option ℕ) (table : Table) (index : ℕ) → 7 ≤ index → index ≤ 7
    → now ≡ flat_map (piece_form table) (take index all_pieces) → now ≡ popped ++ option_to_list last → (0 < length now → IsSome last) → popped ≡ table_form table
unfolding table_form entries_at
table_ends now popped last table index low high is rest some =
    search (rules, pieces_join, ended_joined, length_push, same_from_push)

-- capital letters name their pieces
letter_named : (piece : Piece) → piece_with_letter (piece_letter piece) ≡ Some piece
letter_named piece = search rules

abbrev IsWhole : Entry → Type 0
IsWhole entry = (length entry.offsets ≡ 5) × (list_all is_small_move entry.offsets ≡ true)

forms_spell : (entry : Entry) (entries : List Entry) → AllByRecursion IsWhole (entry ∷ entries)
    → SpellsEntries (join_with_byte 59 (map entry_form (entry ∷ entries))) (entry ∷ entries)
forms_spell entry [] whole = record { letter = piece_letter entry.turned.piece; named = letter_named entry.turned.piece; five = whole.0.0; small = whole.0.1; whole = refl }
forms_spell entry (next ∷ entries) whole = (
  entry_form entry,
  join_with_byte 59 (map entry_form (next ∷ entries)),
  refl,
  record { letter = piece_letter entry.turned.piece; named = letter_named entry.turned.piece; five = whole.0.0; small = whole.0.1; whole = refl },
  forms_spell next entries whole.1,
)

all_spell : (entries : List Entry) → AllByRecursion IsWhole entries → SpellsEntries (join_with_byte 59 (map entry_form entries)) entries
all_spell [] whole = refl
all_spell (entry ∷ entries) whole = forms_spell entry entries whole

table_is : (table : Table) → table ≡ table_of_entries (entries_of table)
table_is table = search (rules, fun_ext)

each_whole : (table : Table) → IsSmallTable table → (pieces : List Piece) → AllByRecursion IsWhole (flat_map (entries_at table) pieces)
unfolding entries_at
each_whole table small [] = tt
each_whole table small (piece ∷ pieces) = search (rules, (each_whole table small pieces))

pub printed_spells : (table : Table) → IsSmallTable table → SpellsTable (table_form table) table
unfolding table_form entries_at
printed_spells table small =
    search (rules, (all_spell (entries_of table) (each_whole table small all_pieces)), (each_whole table small all_pieces), (table_is table))

pub printed_read : (table : Table) (text : List ℕ) → IsSmallTable table → text ≡ table_form table → kick_text text ≡ Ok table
printed_read table text small is = ap kick_text is ∙ table_read (table_form table) table (printed_spells table small)

pub tests_of : (table : Table) (piece : Piece) (rotation : Rotation) (a b c d e : Cell) → IsSmallTable table
    → a ≡ offset_in table piece rotation 1 → b ≡ offset_in table piece rotation 2 → c ≡ offset_in table piece rotation 3
    → d ≡ offset_in table piece rotation 4 → e ≡ offset_in table piece rotation 5
    → ◌≡◌ {A = List Cell} (a ∷ b ∷ c ∷ d ∷ e ∷ []) (table piece rotation)
tests_of table piece rotation a b c d e small p q r s t = grind (arith, common_steps)

-- the offsets after the first one, as code has them
rest_of : (first : Offset) (rest : List Offset) → take (length (first ∷ rest) - 1) (drop 1 (first ∷ rest)) ≡ rest
rest_of first rest = take_all (length (first ∷ rest) - 1) rest (omega arith)

pub short_in_rest : (offsets : List Offset) (i : ℕ) (d : Offset) → list_all is_short_move (map pair_of offsets) ≡ true
    → i < length (take (length offsets - 1) (drop 1 offsets)) → is_short_move (pair_of (get_or (take (length offsets - 1) (drop 1 offsets)) i d)) ≡ true
short_in_rest offsets i d short within = grind (arith, common_steps, rest_of, list_all-map, and_second, list_all_each)

-- all offsets are written
pub offsets_end : (now before base : List ℕ) (offsets : List Offset) (first d : Offset) (index : ℕ) → 1 ≤ length offsets → first ≡ get_or offsets 0 d
    → length (take (length offsets - 1) (drop 1 offsets)) ≤ index → before ≡ base ++ offset_form (pair_of first)
    → now ≡ before ++ flat_map (λ offset. 47 ∷ offset_form (pair_of offset)) (take index (take (length offsets - 1) (drop 1 offsets)))
    → now ≡ base ++ offsets_form (map pair_of offsets)
offsets_end now before base [] first d index some is over begun written = absurd (omega (arith, some))
offsets_end now before base (o ∷ rest) first d index some is over begun written =
    let whole : take index (take (length (o ∷ rest) - 1) (drop 1 (o ∷ rest))) ≡ rest = take_all index (take (length (o ∷ rest) - 1) (drop 1 (o ∷ rest))) over ∙ rest_of o rest in
    written ∙ ap (λ xs. before ++ flat_map (λ offset. 47 ∷ offset_form (pair_of offset)) xs) whole
    ∙ ap (λ b. b ++ flat_map (λ offset. 47 ∷ offset_form (pair_of offset)) rest) (begun ∙ ap (λ f. base ++ offset_form (pair_of f)) is)
    ∙ append_assoc base (offset_form (pair_of o)) (flat_map (λ offset. 47 ∷ offset_form (pair_of offset)) rest)
    ∙ ap (λ t. base ++ (offset_form (pair_of o) ++ t)) (sym (flat_map-map (λ offset. 47 ∷ offset_form offset) pair_of rest))
    ∙ ap (λ t. base ++ t) (offsets_join (pair_of o) (map pair_of rest))

-- a text that begins with more than the base, in three parts, begins with the base
pub front_kept : (base mid text before now f g h : List ℕ) → mid ≡ base ++ f → text ≡ mid ++ g → before ≡ text ++ h
    → take (length before) now ≡ before → take (length base) now ≡ base
front_kept base mid text before now f g h first second third kept =
    let rest = drop (length before) now in
    let begins : before ≡ base ++ (f ++ (g ++ h)) =
    third ∙ ap (λ t. t ++ h) (second ∙ ap (λ t. t ++ g) first) ∙ append_assoc (base ++ f) g h ∙ append_assoc base f (g ++ h) in
    let whole : now ≡ base ++ ((f ++ (g ++ h)) ++ rest) =
    sym (take-append-drop (length before) now) ∙ ap (λ t. t ++ rest) (kept ∙ begins) ∙ append_assoc base (f ++ (g ++ h)) rest in
    ap (λ t. take (length base) t) whole ∙ take-append_seam base ((f ++ (g ++ h)) ++ rest)

-- small numbers have one digit, and so have their differences
short_number : (z : ℤ) → is_small_number z ≡ true → is_one_digit z ≡ true
short_number = each_small (λ z. is_one_digit z ≡ true) refl refl refl refl refl refl refl

-- both numbers of a small move
record IsSmallPair (cell : Cell) : Type 0 where
  pub columns : is_small_number cell.0 ≡ true
  pub rows : is_small_number cell.1 ≡ true

small_pair : (cell : Cell) → is_small_move cell ≡ true → IsSmallPair cell
small_pair cell small = search (rules, and_first, and_from, and_second)

pub short_moves : (cells : List Cell) → list_all is_small_move cells ≡ true → list_all is_short_move cells ≡ true
short_moves [] small = refl
short_moves (cell ∷ cells) small =
    search (rules, and_from, and_first, and_second, small_pair, short_number, (short_moves cells))

-- kicks are short
pub kick_short : (table : Table) (piece : Piece) (from to : Rotation) (test : ℕ) → IsSmallTable table → 1 ≤ test → test ≤ 5
    → is_short_move (kick_in table piece from to test) ≡ true
kick_short table piece from to test small first last = search (rules, small_pair, list_all_each, and_from, each_small)
