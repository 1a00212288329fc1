-- Where a text stands after one more byte.
use Rattle.std.proofs.Common.{◌≡◌, ℕ, ◌+◌, ℤ, Bool, true, false, cond, not, ◌&&◌, ◌==◌, nat_lt, eqb-true, ltb-true, List, [], ◌∷◌, ◌++◌, length, refl, ap, sym, subst, ◌∙◌, arith, Option, Some, None, append_assoc, inl, inr, rules}
use Rattle.std.specs.Option.{option_map}
use Rattle.std.proofs.lemmas.Bool.{and_parts, cases_Bool, not-true}
use Rattle.std.proofs.lemmas.List.{append-nil, length_push, flat_map_more}
use Rattle.std.proofs.lemmas.Option.{none-some, same_Some, cond_some}
use Rattle.srs.specs.declared.piece.Piece.{Piece}
use Rattle.srs.specs.declared.offset.Offset.{Offset}
use Rattle.srs.specs.Cells.{Cell}
use Rattle.srs.specs.Kick.{Table, table_with, pair_of}
use Rattle.srs.specs.Piece.{piece_with_letter}
use Rattle.srs.specs.Rotation.{rotation_with_letter}
use Rattle.kick_file.specs.declared.turned.TurnedPiece.{TurnedPiece}
use Rattle.kick_file.specs.declared.parser_state.ParserState.{ParserState}
use Rattle.kick_file.specs.declared.parser_state.ParserState.TheVariants.{Beginning, Division, Letter, Letters, Columns, Comma, Rows, Whole}
use Rattle.kick_file.specs.Form.{Entry, signed_digit, offset_form, turned_of, table_of_entries}
use Rattle.kick_file.specs.Faults.{SpellsBefore}
use Rattle.kick_file.specs.Reading.{is_small_number, number_with_digit, next_state}
use Rattle.kick_file.proofs.ReadIsSpelled.{one_more_before, ended_offsets, all_small}
use Rattle.kick_file.proofs.Standing.{Here, Kept, AfterLetter, AfterLetters, Part, WholePart, finished, sign, number_found, rotation_found, small_offset, part_longer, put_more}

-- what is kept where the text stands now
unfoldable pub given_then : List TurnedPiece → ParserState → List TurnedPiece
given_then given (Letters turned start) = given ++ turned ∷ []
given_then given other = given

unfoldable pub table_then : Table → ParserState → Table
table_then table (Whole turned test offset) = table_with table turned.piece turned.rotation test (pair_of offset)
table_then table other = table

pub record Moved (text : List ℕ) (given : List TurnedPiece) (table : Table) (to : ParserState) : Type 0 where
  pub entries : List Entry
  pub here : Here text entries (given_then given to) (table_then table to) to

record Mapped {A B : Type 0} (f : A → B) (o : Option A) (b : B) : Type 0 where
  a : A
  is : o ≡ Some a
  to : f a ≡ b

mapped : {A B : Type 0} (f : A → B) (o : Option A) (b : B) → option_map f o ≡ Some b → Mapped f o b
mapped f B b h = search (rules, none-some, same_Some)

letter_moved : (text : List ℕ) (byte place : ℕ) (entries : List Entry) (given : List TurnedPiece) (table : Table) (to : ParserState) → SpellsBefore text entries → Kept entries given table
    → place ≡ length text → option_map (λ piece. Letter piece place) (piece_with_letter byte) ≡ Some to → Moved (text ++ byte ∷ []) given table to
unfolding given_then table_then
letter_moved text byte place entries given table to spelled kept stands is =
    let found = mapped (λ piece. Letter piece place) (piece_with_letter byte) to is in
    subst (Moved (text ++ byte ∷ []) given table) found.to (record {
      entries = entries;
      here = (record { before = text; letter = byte; spelled = spelled; named = found.is; whole = refl; starts = stands }, kept);
    })

letters_moved : (text : List ℕ) (byte place start : ℕ) (piece : Piece) (entries : List Entry) (given : List TurnedPiece) (table : Table) (to : ParserState) → AfterLetter text entries piece start
    → Kept entries given table → option_map (λ rotation. Letters (record { piece = piece; rotation = rotation }) start) (rotation_with_letter byte) ≡ Some to
    → Moved (text ++ byte ∷ []) given table to
unfolding given_then table_then
letters_moved text byte place start piece entries given table to after kept is =
    let found = mapped (λ rotation. Letters (record { piece = piece; rotation = rotation }) start) (rotation_with_letter byte) to is in
    let turned : TurnedPiece = record { piece = piece; rotation = found.a } in
    subst (Moved (text ++ byte ∷ []) given table) found.to (record {
      entries = entries;
      here = search (rules, append_assoc, rotation_found);
    })

colon_moved : (text : List ℕ) (byte place start : ℕ) (turned : TurnedPiece) (entries : List Entry) (given : List TurnedPiece) (table : Table) (to : ParserState) → AfterLetters text entries turned start
    → given ≡ turned_of entries ++ turned ∷ [] → table ≡ table_of_entries entries → cond (byte == 58) (Some (Columns turned 1 false)) None ≡ Some to
    → Moved (text ++ byte ∷ []) given table to
unfolding given_then table_then
colon_moved text byte place start turned entries given table to after names is next_is =
    let found = cond_some (byte == 58) (Columns turned 1 false) to next_is in
    subst (Moved (text ++ byte ∷ []) given table) found.1 (record {
      entries = entries;
      here = record {
        cells = [];
        stands = search (rules, append_assoc, eqb-true);
        number = refl;
        most = omega arith;
        names = names;
        put = is;
      };
    })

-- the sign of a number, or its digit
record Signed (byte : ℕ) (is_negative : Bool) : Type 0 where
  minus_sign : byte ≡ 45
  none : is_negative ≡ false

signed : (byte : ℕ) (is_negative : Bool) → (byte == 45 && not is_negative) ≡ true → Signed byte is_negative
signed byte is_negative h = search (rules, and_parts, eqb-true, not-true)

columns_moved : (text : List ℕ) (byte place : ℕ) (turned : TurnedPiece) (test : ℕ) (is_negative : Bool) (entries : List Entry) (given : List TurnedPiece) (table : Table) (to : ParserState)
    → Part text entries given table turned test (sign is_negative)
    → cond (byte == 45 && not is_negative) (Some (Columns turned test true)) (option_map (λ dx. Comma turned test dx) (number_with_digit is_negative byte)) ≡ Some to
    → Moved (text ++ byte ∷ []) given table to
unfolding given_then table_then
columns_moved text byte place turned test is_negative entries given table to here next_is = elim (cases_Bool (byte == 45 && not is_negative)) [
  | inl negative_next ↦
      let s = signed byte is_negative negative_next in
      let to_is = same_Some (Columns turned test true) to (sym (ap (λ b. cond b (Some (Columns turned test true)) (option_map (λ dx. Comma turned test dx) (number_with_digit is_negative byte))) negative_next) ∙ next_is) in
      subst (Moved (text ++ byte ∷ []) given table) to_is (record {
        entries = entries;
        here = part_longer text entries given table turned test (sign is_negative) (45 ∷ []) byte here
            (ap (λ n. sign n ++ byte ∷ []) s.none ∙ ap (λ b. b ∷ []) s.minus_sign);
      })
  | inr digit ↦
      let found = mapped (λ dx. Comma turned test dx) (number_with_digit is_negative byte) to
      (sym (ap (λ b. cond b (Some (Columns turned test true)) (option_map (λ dx. Comma turned test dx) (number_with_digit is_negative byte))) digit) ∙ next_is) in
      let number = number_found is_negative byte found.a found.is in
      subst (Moved (text ++ byte ∷ []) given table) found.to (record {
        entries = entries;
        here = (part_longer text entries given table turned test (sign is_negative) (signed_digit found.a) byte here number.form, number.small);
      })
]

comma_moved : (text : List ℕ) (byte place : ℕ) (turned : TurnedPiece) (test : ℕ) (dx : ℤ) (entries : List Entry) (given : List TurnedPiece) (table : Table) (to : ParserState)
    → Part text entries given table turned test (signed_digit dx) → is_small_number dx ≡ true → cond (byte == 44) (Some (Rows turned test dx false)) None ≡ Some to
    → Moved (text ++ byte ∷ []) given table to
unfolding given_then table_then
comma_moved text byte place turned test dx entries given table to here small next_is =
    let found = cond_some (byte == 44) (Rows turned test dx false) to next_is in
    subst (Moved (text ++ byte ∷ []) given table) found.1 (record {
      entries = entries;
      here = search (rules, part_longer, eqb-true);
    })

rows_moved : (text : List ℕ) (byte place : ℕ) (turned : TurnedPiece) (test : ℕ) (dx : ℤ) (is_negative : Bool) (entries : List Entry) (given : List TurnedPiece) (table : Table) (to : ParserState)
    → Part text entries given table turned test (signed_digit dx ++ 44 ∷ sign is_negative) → is_small_number dx ≡ true
    → cond (byte == 45 && not is_negative) (Some (Rows turned test dx true)) (option_map (λ dy. Whole turned test (record { dx = dx; dy = dy })) (number_with_digit is_negative byte)) ≡ Some to
    → Moved (text ++ byte ∷ []) given table to
unfolding given_then table_then
rows_moved text byte place turned test dx is_negative entries given table to here small next_is = elim (cases_Bool (byte == 45 && not is_negative)) [
  | inl negative_next ↦
      let s = signed byte is_negative negative_next in
      let to_is = same_Some (Rows turned test dx true) to
      (sym (ap (λ b. cond b (Some (Rows turned test dx true)) (option_map (λ dy. Whole turned test (record { dx = dx; dy = dy })) (number_with_digit is_negative byte))) negative_next) ∙ next_is) in
      subst (Moved (text ++ byte ∷ []) given table) to_is (record {
        entries = entries;
        here = search (rules, part_longer, append_assoc);
      })
  | inr digit ↦
      let found = mapped (λ dy. Whole turned test (record { dx = dx; dy = dy })) (number_with_digit is_negative byte) to
      (sym (ap (λ b. cond b (Some (Rows turned test dx true)) (option_map (λ dy. Whole turned test (record { dx = dx; dy = dy })) (number_with_digit is_negative byte))) digit) ∙ next_is) in
      let number = number_found is_negative byte found.a found.is in
      subst (Moved (text ++ byte ∷ []) given table) found.to (record {
        entries = entries;
        here = search (rules, part_longer, append_assoc, small_offset);
      })
]

-- the next offset of an entry
slash_part : (text : List ℕ) (turned : TurnedPiece) (test : ℕ) (cell : Cell) (entries : List Entry) (given : List TurnedPiece) (table : Table)
    → WholePart text entries given table turned test cell → nat_lt test 5 ≡ true → Part (text ++ 47 ∷ []) entries given table turned (test + 1) []
slash_part text turned test cell entries given table here more =
    let part = here.part in
    let stands = part.stands in
    let below = ltb-true test 5 more in
    let form : (ended_offsets part.cells ++ offset_form cell) ++ 47 ∷ [] ≡ ended_offsets (part.cells ++ cell ∷ []) ++ [] =
    append_assoc (ended_offsets part.cells) (offset_form cell) (47 ∷ []) ∙ flat_map_more (λ c. offset_form c ++ 47 ∷ []) [] part.cells cell
    ∙ sym (append-nil (ended_offsets (part.cells ++ cell ∷ []))) in
    search (rules, all_small, append_assoc, length_push, put_more)

whole_moved : (text : List ℕ) (byte place : ℕ) (turned : TurnedPiece) (test : ℕ) (offset : Offset) (entries : List Entry) (given : List TurnedPiece) (table : Table) (to : ParserState)
    → WholePart text entries given table turned test (pair_of offset)
    → cond (nat_lt test 5) (cond (byte == 47) (Some (Columns turned (test + 1) false)) None) (cond (byte == 59) (Some Division) None) ≡ Some to
    → Moved (text ++ byte ∷ []) given table to
unfolding given_then table_then
whole_moved text byte place turned test offset entries given table to here next_is = elim (cases_Bool (nat_lt test 5)) [
  | inl more ↦
      let found = cond_some (byte == 47) (Columns turned (test + 1) false) to
      (sym (ap (λ b. cond b (cond (byte == 47) (Some (Columns turned (test + 1) false)) None) (cond (byte == 59) (Some Division) None)) more) ∙ next_is) in
      subst (λ b. Moved (text ++ b ∷ []) given table to) (sym (eqb-true byte 47 found.0))
      (subst (Moved (text ++ 47 ∷ []) given table) found.1 (record { entries = entries; here = slash_part text turned test (pair_of offset) entries given table here more }))
  | inr done ↦
      let found = cond_some (byte == 59) Division to
      (sym (ap (λ b. cond b (cond (byte == 47) (Some (Columns turned (test + 1) false)) None) (cond (byte == 59) (Some Division) None)) done) ∙ next_is) in
      let end = finished text entries given table turned test (pair_of offset) here done in
      let form : text ++ 59 ∷ [] ≡ end.before ++ (end.last ++ 59 ∷ []) = ap (λ t. t ++ 59 ∷ []) end.whole ∙ append_assoc end.before end.last (59 ∷ []) in
      subst (λ b. Moved (text ++ b ∷ []) given table to) (sym (eqb-true byte 59 found.0))
      (subst (Moved (text ++ 59 ∷ []) given table) found.1 (record {
        entries = entries ++ end.entry ∷ [];
        here = search (rules, one_more_before);
      }))
]

pub moved : (text : List ℕ) (byte place : ℕ) (entries : List Entry) (given : List TurnedPiece) (table : Table) (state to : ParserState) → Here text entries given table state
    → place ≡ length text → next_state state place byte ≡ Some to → Moved (text ++ byte ∷ []) given table to
moved text byte place entries given table Beginning to here stands is =
    letter_moved text byte place entries given table to (subst (λ es. SpellsBefore text es) (sym here.1) here.0) here.2 stands is
moved text byte place entries given table Division to here stands is = letter_moved text byte place entries given table to here.0 here.1 stands is
moved text byte place entries given table (Letter piece start) to here stands is = letters_moved text byte place start piece entries given table to here.0 here.1 is
moved text byte place entries given table (Letters turned start) to here stands is = colon_moved text byte place start turned entries given table to here.0 here.1 here.2 is
moved text byte place entries given table (Columns turned test is_negative) to here stands is = columns_moved text byte place turned test is_negative entries given table to here is
moved text byte place entries given table (Comma turned test dx) to here stands is = comma_moved text byte place turned test dx entries given table to here.0 here.1 is
moved text byte place entries given table (Rows turned test dx is_negative) to here stands is = rows_moved text byte place turned test dx is_negative entries given table to here.0 here.1 is
moved text byte place entries given table (Whole turned test offset) to here stands is = whole_moved text byte place turned test offset entries given table to here is
