-- Where a text stands, by what was read of it.
use Rattle.std.proofs.Common.{◌≡◌, ℕ, suc, ◌+◌, ◌≤◌, ℤ, pos, Bool, true, false, nat_lt, eqb-true, List, [], ◌∷◌, ◌++◌, length, refl, ap, sym, subst, ◌∙◌, arith, Some, append_assoc, rules}
use Rattle.std.specs.List.{fold}
use Rattle.std.proofs.lemmas.Bool.{and_parts}
use Rattle.std.proofs.lemmas.Bool.Decides.{nat_tests}
use Rattle.std.proofs.lemmas.List.{append-nil, length_push, map_push}
use Rattle.std.proofs.lemmas.Grind.{common_steps}
use Rattle.srs.specs.declared.piece.Piece.{Piece}
use Rattle.srs.specs.declared.piece.Piece.TheVariants.{I}
use Rattle.srs.specs.declared.rotation.Rotation.{Rotation}
use Rattle.srs.specs.declared.rotation.Rotation.TheVariants.{Spawn}
use Rattle.srs.specs.Cells.{Cell, minus}
use Rattle.srs.specs.Kick.{Table, srs_table, table_with, is_small_move, pair_of}
use Rattle.srs.specs.Piece.{piece_with_letter}
use Rattle.srs.specs.Rotation.{rotation_letter, rotation_with_letter}
use Rattle.srs.proofs.CallerLemmas.{find-Contains, each-contained}
use Rattle.kick_file.specs.declared.turned.TurnedPiece.{TurnedPiece}
use Rattle.kick_file.specs.declared.parser_state.ParserState.{ParserState}
use Rattle.kick_file.specs.declared.parser_state.ParserState.TheVariants.{Beginning, Division, Letter, Letters, Columns, Comma, Rows, Whole}
use Rattle.kick_file.specs.Form.{Entry, SpellsEntry, signed_digit, offset_form, offsets_form, turned_of, table_with_entry, table_of_entries}
use Rattle.srs.specs.Forms.{IsFront}
use Rattle.kick_file.specs.Faults.{SpellsBefore, SpellsSome}
use Rattle.kick_file.specs.Reading.{is_small_number, number_with_digit}
use Rattle.kick_file.proofs.Entries.{HasFive, put_from, put_five}
use Rattle.kick_file.proofs.SpelledIsRead.{srs_five}
use Rattle.kick_file.proofs.ReadIsSpelled.{InEntry, longer, part_front, one_more, before_five, entry_whole, ended_offsets, offsets_split, all_small, origin}

-- the sign of a number
abbrev pub sign : Bool → List ℕ
sign false = []
sign true = 45 ∷ []

-- a number with this digit, after `-` or without
pub record IsNumber (is_negative : Bool) (byte : ℕ) (z : ℤ) : Type 0 where
  pub small : is_small_number z ≡ true
  pub form : sign is_negative ++ byte ∷ [] ≡ signed_digit z

pub number_found : (is_negative : Bool) (byte : ℕ) (z : ℤ) → number_with_digit is_negative byte ≡ Some z → IsNumber is_negative byte z
number_found is_negative byte z found = search (rules, find-Contains, each-contained, eqb-true)

pub small_offset : (dx dy : ℤ) → is_small_number dx ≡ true → is_small_number dy ≡ true → is_small_move (dx, dy) ≡ true
small_offset dx dy = search (rules, and_parts)

pub rotation_found : (byte : ℕ) (rotation : Rotation) → rotation_with_letter byte ≡ Some rotation → byte ≡ rotation_letter rotation
rotation_found byte rotation found = search (rules, eqb-true, find-Contains)

-- what is kept between entries
pub record Kept (entries : List Entry) (given : List TurnedPiece) (table : Table) : Type 0 where
  pub names : given ≡ turned_of entries
  pub is : table ≡ table_of_entries entries

-- after the letter of a piece
pub record AfterLetter (text : List ℕ) (entries : List Entry) (piece : Piece) (start : ℕ) : Type 0 where
  pub before : List ℕ
  pub letter : ℕ
  pub spelled : SpellsBefore before entries
  pub named : piece_with_letter letter ≡ Some piece
  pub whole : text ≡ before ++ letter ∷ []
  pub starts : start ≡ length before

-- after both letters
pub record AfterLetters (text : List ℕ) (entries : List Entry) (turned : TurnedPiece) (start : ℕ) : Type 0 where
  pub before : List ℕ
  pub letter : ℕ
  pub spelled : SpellsBefore before entries
  pub named : piece_with_letter letter ≡ Some turned.piece
  pub whole : text ≡ before ++ letter ∷ rotation_letter turned.rotation ∷ []
  pub starts : start ≡ length before

-- within an entry, at a part of the offset of a test
pub record Part (text : List ℕ) (entries : List Entry) (given : List TurnedPiece) (table : Table) (turned : TurnedPiece) (test : ℕ) (part : List ℕ) : Type 0 where
  pub cells : List Cell
  pub stands : InEntry text entries turned cells part
  pub number : test ≡ suc (length cells)
  pub most : test ≤ 5
  pub names : given ≡ turned_of entries ++ turned ∷ []
  pub put : table ≡ put_from (table_of_entries entries) turned 1 cells

pub record WholePart (text : List ℕ) (entries : List Entry) (given : List TurnedPiece) (table : Table) (turned : TurnedPiece) (test : ℕ) (cell : Cell) : Type 0 where
  pub old : Table
  pub part : Part text entries given old turned test (offset_form cell)
  pub small : is_small_move cell ≡ true
  pub is : table ≡ table_with old turned.piece turned.rotation test cell

-- where the text stands
abbrev pub Here : List ℕ → List Entry → List TurnedPiece → Table → ParserState → Type 0
Here text entries given table Beginning = (text ≡ []) × (entries ≡ []) × Kept entries given table
Here text entries given table Division = SpellsBefore text entries × Kept entries given table
Here text entries given table (Letter piece start) = AfterLetter text entries piece start × Kept entries given table
Here text entries given table (Letters turned start) =
    AfterLetters text entries turned start × (given ≡ turned_of entries ++ turned ∷ []) × (table ≡ table_of_entries entries)
Here text entries given table (Columns turned test is_negative) = Part text entries given table turned test (sign is_negative)
Here text entries given table (Comma turned test dx) = Part text entries given table turned test (signed_digit dx) × (is_small_number dx ≡ true)
Here text entries given table (Rows turned test dx is_negative) =
    Part text entries given table turned test (signed_digit dx ++ 44 ∷ sign is_negative) × (is_small_number dx ≡ true)
Here text entries given table (Whole turned test offset) = WholePart text entries given table turned test (pair_of offset)

-- one more byte of a part
pub part_longer : (text : List ℕ) (entries : List Entry) (given : List TurnedPiece) (table : Table) (turned : TurnedPiece) (test : ℕ) (part longer_part : List ℕ) (byte : ℕ)
    → Part text entries given table turned test part → part ++ byte ∷ [] ≡ longer_part → Part (text ++ byte ∷ []) entries given table turned test longer_part
part_longer text entries given table turned test part longer_part byte here is = search (rules, longer)

-- every text so far can go on
zeros : List Cell
zeros = origin ∷ origin ∷ origin ∷ origin ∷ origin ∷ []

front_with : (text before head rest : List ℕ) (entries : List Entry) (letter : ℕ) (turned : TurnedPiece) → SpellsBefore before entries → piece_with_letter letter ≡ Some turned.piece
    → text ≡ before ++ head → head ++ rest ≡ letter ∷ rotation_letter turned.rotation ∷ 58 ∷ offsets_form zeros → IsFront SpellsSome text
unfolding zeros
front_with text before head rest entries letter turned spelled named whole made =
    let entry : Entry = record { turned = turned; offsets = zeros } in
    let form : text ++ rest ≡ before ++ (letter ∷ rotation_letter turned.rotation ∷ 58 ∷ offsets_form zeros) =
    ap (λ t. t ++ rest) whole ∙ append_assoc before head rest ∙ ap (λ t. before ++ t) made in
    record {
      rest = rest;
      form = subst SpellsSome (sym form) (
        entries ++ entry ∷ [],
        one_more before _ entries entry spelled (entry_whole turned letter zeros named refl refl),
      );
    }

part_goes_on : (text : List ℕ) (entries : List Entry) (given : List TurnedPiece) (table : Table) (turned : TurnedPiece) (test : ℕ) (part more : List ℕ) (cell : Cell)
    → Part text entries given table turned test part → part ++ more ≡ offset_form cell → is_small_move cell ≡ true → IsFront SpellsSome text
part_goes_on text entries given table turned test part more cell here made small =
    part_front text entries turned here.cells part more cell here.stands (omega (arith, here.number, here.most)) made small

pub front_here : (text : List ℕ) (entries : List Entry) (given : List TurnedPiece) (table : Table) (state : ParserState) → Here text entries given table state → IsFront SpellsSome text
unfolding zeros
front_here text entries given table Beginning here = record { rest = []; form = ([], append-nil text ∙ here.0) }
front_here text entries given table Division here =
    front_with text text [] (73 ∷ 48 ∷ 58 ∷ offsets_form zeros) entries 73 (record { piece = I; rotation = Spawn }) here.0 refl (sym (append-nil text)) refl
front_here text entries given table (Letter piece start) here =
    front_with text here.0.before (here.0.letter ∷ []) (48 ∷ 58 ∷ offsets_form zeros) entries here.0.letter (record { piece = piece; rotation = Spawn }) here.0.spelled here.0.named here.0.whole refl
front_here text entries given table (Letters turned start) here =
    front_with text here.0.before (here.0.letter ∷ rotation_letter turned.rotation ∷ []) (58 ∷ offsets_form zeros) entries here.0.letter turned here.0.spelled here.0.named here.0.whole refl
front_here text entries given table (Columns turned test false) here =
    part_goes_on text entries given table turned test [] (offset_form origin) origin here refl refl
front_here text entries given table (Columns turned test true) here =
    part_goes_on text entries given table turned test (45 ∷ []) (49 ∷ 44 ∷ 48 ∷ []) (minus 1, pos 0) here refl refl
front_here text entries given table (Comma turned test dx) here =
    part_goes_on text entries given table turned test (signed_digit dx) (44 ∷ 48 ∷ []) (dx, pos 0) here.0 refl (small_offset dx (pos 0) here.1 refl)
front_here text entries given table (Rows turned test dx false) here =
    part_goes_on text entries given table turned test (signed_digit dx ++ 44 ∷ []) (48 ∷ []) (dx, pos 0) here.0 (append_assoc (signed_digit dx) (44 ∷ []) (48 ∷ [])) (small_offset dx (pos 0) here.1 refl)
front_here text entries given table (Rows turned test dx true) here =
    part_goes_on text entries given table turned test (signed_digit dx ++ 44 ∷ 45 ∷ []) (49 ∷ []) (dx, minus 1) here.0 (append_assoc (signed_digit dx) (44 ∷ 45 ∷ []) (49 ∷ [])) (small_offset dx (minus 1) here.1 refl)
front_here text entries given table (Whole turned test offset) here =
    part_goes_on text entries given here.old turned test (offset_form (pair_of offset)) [] (pair_of offset) here.part (append-nil (offset_form (pair_of offset))) here.small

-- offsets that are put one after the other
pub put_more : (table : Table) (turned : TurnedPiece) (test : ℕ) (cells : List Cell) (cell : Cell)
    → put_from table turned test (cells ++ cell ∷ []) ≡ table_with (put_from table turned test cells) turned.piece turned.rotation (test + length cells) cell
put_more table turned test [] cell = ap (λ n. table_with table turned.piece turned.rotation n cell) (omega arith)
put_more table turned test (first ∷ cells) cell =
    search (rules, put_more (table_with table turned.piece turned.rotation test first) turned (test + 1) cells cell)

put_all : (table : Table) (turned : TurnedPiece) (cells : List Cell) → length cells ≡ 5 → HasFive table
    → put_from table turned 1 cells ≡ table_with_entry table (record { turned = turned; offsets = cells })
put_all table turned [] five tables = absurd (omega (arith, five))
put_all table turned (v ∷ []) five tables = absurd (omega (arith, five))
put_all table turned (v ∷ w ∷ []) five tables = absurd (omega (arith, five))
put_all table turned (v ∷ w ∷ x ∷ []) five tables = absurd (omega (arith, five))
put_all table turned (v ∷ w ∷ x ∷ y ∷ []) five tables = absurd (omega (arith, five))
put_all table turned (v ∷ w ∷ x ∷ y ∷ z ∷ []) five tables = put_five table turned v w x y z tables
put_all table turned (u ∷ v ∷ w ∷ x ∷ y ∷ z ∷ more) five tables = absurd (omega (arith, five))

with_more : (table : Table) (entries : List Entry) (entry : Entry) → fold table_with_entry table (entries ++ entry ∷ []) ≡ table_with_entry (fold table_with_entry table entries) entry
with_more table entries entry = grind (arith, common_steps)

-- a fifth offset ends an entry
pub record Finished (text : List ℕ) (entries : List Entry) (given : List TurnedPiece) (table : Table) : Type 0 where
  pub before : List ℕ
  pub last : List ℕ
  pub entry : Entry
  pub whole : text ≡ before ++ last
  pub spelled : SpellsBefore before entries
  pub entry_spelled : SpellsEntry last entry
  pub names : given ≡ turned_of (entries ++ entry ∷ [])
  pub is : table ≡ table_of_entries (entries ++ entry ∷ [])

pub finished : (text : List ℕ) (entries : List Entry) (given : List TurnedPiece) (table : Table) (turned : TurnedPiece) (test : ℕ) (cell : Cell)
    → WholePart text entries given table turned test cell → nat_lt test 5 ≡ false → Finished text entries given table
finished text entries given table turned test cell here done =
    let part = here.part in
    let stands = part.stands in
    let all = part.cells ++ cell ∷ [] in
    let four : length part.cells ≡ 4 = by_test test (length part.cells) part.number part.most done in
    let count : length all ≡ 5 = omega (arith, four, length_push part.cells cell) in
    let entry : Entry = record { turned = turned; offsets = all } in
    let form : ended_offsets part.cells ++ offset_form cell ≡ offsets_form all =
    ap (λ t. ended_offsets part.cells ++ t) (sym (append-nil (offset_form cell))) ∙ sym (offsets_split part.cells cell []) in
    let five = before_five stands.before srs_table entries stands.spelled srs_five in
    let fifth : 1 + length part.cells ≡ test = omega (arith, part.number) in
    record {
      before = stands.before;
      last = stands.letter ∷ rotation_letter turned.rotation ∷ 58 ∷ offsets_form all;
      entry = entry;
      whole = stands.whole ∙ ap (λ t. stands.before ++ stands.letter ∷ rotation_letter turned.rotation ∷ 58 ∷ t) form;
      spelled = stands.spelled;
      entry_spelled = entry_whole turned stands.letter all stands.named count (all_small part.cells cell [] stands.small here.small refl);
      names = part.names ∙ sym (map_push (λ (e : Entry). e.turned) entries entry);
      is = here.is ∙ ap (λ t. table_with t turned.piece turned.rotation test cell) part.put
          ∙ ap (λ n. table_with (put_from (table_of_entries entries) turned 1 part.cells) turned.piece turned.rotation n cell) (sym fifth)
          ∙ sym (put_more (table_of_entries entries) turned 1 part.cells cell)
          ∙ put_all (table_of_entries entries) turned all count five ∙ sym (with_more srs_table entries entry);
    }
  where
    by_test : (test count : ℕ) → test ≡ suc count → test ≤ 5 → nat_lt test 5 ≡ false → count ≡ 4
    by_test test count number most done = grind (arith, nat_tests)
