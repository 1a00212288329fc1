-- An entry is read as it is written.
use Rattle.std.proofs.Common.{◌≡◌, ℕ, ◌+◌, Bool, true, false, cond, ◌&&◌, ◌==◌, List, [], ◌∷◌, ◌++◌, length, set, refl, ap, sym, ◌∙◌, arith, nat_lt, Some, Err, rules}
use Rattle.std.specs.List.{list_all}
use Rattle.std.proofs.Math.Path.{fun_ext}
use Rattle.std.proofs.lemmas.Bool.{and_parts}
use Rattle.srs.specs.declared.piece.Piece.{Piece}
use Rattle.srs.specs.declared.rotation.Rotation.{Rotation}
use Rattle.srs.specs.Cells.{Cell}
use Rattle.srs.specs.Kick.{Table, table_with, piece_table_with, is_small_move}
use Rattle.srs.specs.Piece.{piece_with_letter}
use Rattle.srs.specs.Rotation.{rotation_letter, rotation_index}
use Rattle.kick_file.specs.declared.fault.KickFault.TheVariants.{RepeatedEntry}
use Rattle.kick_file.specs.declared.turned.TurnedPiece.{TurnedPiece}
use Rattle.kick_file.specs.declared.parser_state.ParserState.TheVariants.{Division, Letter, Letters, Columns}
use Rattle.kick_file.specs.Form.{Entry, SpellsEntry, offset_form, offsets_form, is_repeated, table_with_entry}
use Rattle.kick_file.specs.Reading.{Reading, reading_at, after_byte, read_on}
use Rattle.kick_file.proofs.Steps.{at, Passes, one_byte, both}
use Rattle.kick_file.proofs.Numbers.{offset_passes, whole}
use Rattle.srs.proofs.CallerLemmas.{rotation_with_letter-letter}

-- five offsets that are put one after the other are those of an entry
all_set : (cells : List Cell) (a b c d e : Cell) → length cells ≡ 5 → set (set (set (set (set cells 0 a) 1 b) 2 c) 3 d) 4 e ≡ a ∷ b ∷ c ∷ d ∷ e ∷ []
all_set [] a b c d e five = absurd (omega (arith, five))
all_set (v ∷ []) a b c d e five = absurd (omega (arith, five))
all_set (v ∷ w ∷ []) a b c d e five = absurd (omega (arith, five))
all_set (v ∷ w ∷ x ∷ []) a b c d e five = absurd (omega (arith, five))
all_set (v ∷ w ∷ x ∷ y ∷ []) a b c d e five = absurd (omega (arith, five))
all_set (v ∷ w ∷ x ∷ y ∷ z ∷ []) a b c d e five = refl
all_set (u ∷ v ∷ w ∷ x ∷ y ∷ z ∷ more) a b c d e five = absurd (omega (arith, five))

-- the table with offsets from a test on
abbrev pub put_from : Table → TurnedPiece → ℕ → List Cell → Table
put_from table turned test [] = table
put_from table turned test (cell ∷ cells) = put_from (table_with table turned.piece turned.rotation test cell) turned (test + 1) cells

-- each list of offsets has five
abbrev pub HasFive : Table → Type 0
HasFive table = (piece : Piece) (rotation : Rotation) → length (table piece rotation) ≡ 5

by_rotation : (b : Bool) (cells : List Cell) (a c d e f : Cell) → length cells ≡ 5
    → (let one : ℕ → Cell → List Cell → List Cell = λ i cell xs. cond b (set xs i cell) xs in one 4 f (one 3 e (one 2 d (one 1 c (one 0 a cells)))))
    ≡ cond b (a ∷ c ∷ d ∷ e ∷ f ∷ []) cells
by_rotation b cells a c d e f five = search (rules, all_set)

by_piece : (q : Bool) (turns : Rotation → List Cell) (turned rotation : Rotation) (a c d e f : Cell) → length (turns rotation) ≡ 5
    → (let one : ℕ → Cell → (Rotation → List Cell) → (Rotation → List Cell) = λ i cell ts. cond q (piece_table_with ts turned i cell) ts in one 5 f (one 4 e (one 3 d (one 2 c (one 1 a turns)))) rotation)
    ≡ cond (q && rotation_index rotation == rotation_index turned) (a ∷ c ∷ d ∷ e ∷ f ∷ []) (turns rotation)
by_piece true turns turned rotation a c d e f five = by_rotation (rotation_index rotation == rotation_index turned) (turns rotation) a c d e f five
by_piece false turns turned rotation a c d e f five = refl

pub put_five : (table : Table) (turned : TurnedPiece) (a b c d e : Cell) → HasFive table
    → put_from table turned 1 (a ∷ b ∷ c ∷ d ∷ e ∷ []) ≡ table_with_entry table (record { turned = turned; offsets = a ∷ b ∷ c ∷ d ∷ e ∷ [] })
put_five table turned a b c d e five = search (rules, fun_ext, by_piece)

-- an entry's five offsets leave five
pub with_entry-five : (table : Table) (entry : Entry) → length entry.offsets ≡ 5 → HasFive table → HasFive (table_with_entry table entry)
with_entry-five table entry entry_five five piece rotation = search rules

letters_step : (given : List TurnedPiece) (table : Table) (place start : ℕ) (turned : TurnedPiece)
    → after_byte (at given table (Letter turned.piece start)) place (rotation_letter turned.rotation) ≡ reading_at (at given table (Letter turned.piece start)) place (Some (Letters turned start))
unfolding after_byte
letters_step given table place start turned = search (rules, rotation_with_letter-letter)

-- an entry that stood before is refused at its second letter
pub repeated_entry : (given : List TurnedPiece) (table : Table) (place letter : ℕ) (turned : TurnedPiece) (rest : List ℕ) → piece_with_letter letter ≡ Some turned.piece
    → is_repeated given turned ≡ true
    → read_on (at given table Division) place (letter ∷ rotation_letter turned.rotation ∷ rest) ≡ Err (RepeatedEntry place)
unfolding read_on after_byte
repeated_entry given table place letter turned rest named stood = search (rules, letters_step)

-- another one is begun
begun : (given : List TurnedPiece) (table : Table) (place letter : ℕ) (turned : TurnedPiece) (rest : List ℕ) → piece_with_letter letter ≡ Some turned.piece
    → is_repeated given turned ≡ false
    → read_on (at given table Division) place (letter ∷ rotation_letter turned.rotation ∷ rest) ≡ read_on (at (given ++ turned ∷ []) table (Letters turned place)) (place + 1 + 1) rest
unfolding read_on after_byte
begun given table place letter turned rest named fresh = search (rules, letters_step)

-- five offsets and what stands between them
slash : (given : List TurnedPiece) (table : Table) (turned : TurnedPiece) (test : ℕ) (cell : Cell) → nat_lt test 5 ≡ true
    → Passes (at given table (whole turned test cell)) (47 ∷ []) (at given table (Columns turned (test + 1) false))
unfolding after_byte
slash given table turned test cell more = search (rules, one_byte)

offsets_pass : (given : List TurnedPiece) (table : Table) (turned : TurnedPiece) (start : ℕ) (a b c d e : Cell)
    → is_small_move a ≡ true → is_small_move b ≡ true → is_small_move c ≡ true → is_small_move d ≡ true → is_small_move e ≡ true
    → Passes (at given table (Letters turned start)) (58 ∷ offsets_form (a ∷ b ∷ c ∷ d ∷ e ∷ []))
    (at given (put_from table turned 1 (a ∷ b ∷ c ∷ d ∷ e ∷ [])) (whole turned 5 e))
unfolding after_byte
offsets_pass given table turned start a b c d e a-small b-small c-small d-small e-small =
    let colon : Passes (at given table (Letters turned start)) (58 ∷ []) (at given table (Columns turned 1 false)) = one_byte _ 58 _ (λ place. refl) in
    both _ (58 ∷ []) _ (offsets_form (a ∷ b ∷ c ∷ d ∷ e ∷ [])) _ colon
    (more table 1 a b (c ∷ d ∷ e ∷ []) _ a-small refl
    (more _ 2 b c (d ∷ e ∷ []) _ b-small refl
    (more _ 3 c d (e ∷ []) _ c-small refl
    (more _ 4 d e [] _ d-small refl
    (offset_passes given _ turned 5 e e-small)))))
  where
    more : (now : Table) (test : ℕ) (cell next : Cell) (cells : List Cell) (to : Reading) → is_small_move cell ≡ true → nat_lt test 5 ≡ true
        → Passes (at given (table_with now turned.piece turned.rotation test cell) (Columns turned (test + 1) false)) (offsets_form (next ∷ cells)) to
        → Passes (at given now (Columns turned test false)) (offsets_form (cell ∷ next ∷ cells)) to
    more now test cell next cells to small within rest =
        both _ (offset_form cell) _ (47 ∷ offsets_form (next ∷ cells)) _ (offset_passes given now turned test cell small)
        (both _ (47 ∷ []) _ (offsets_form (next ∷ cells)) _ (slash given _ turned test cell within) rest)

-- the cells of a list of five, each small
record IsFive (cells : List Cell) : Type 0 where
  a : Cell
  b : Cell
  c : Cell
  d : Cell
  e : Cell
  are : cells ≡ a ∷ b ∷ c ∷ d ∷ e ∷ []
  a-small : is_small_move a ≡ true
  b-small : is_small_move b ≡ true
  c-small : is_small_move c ≡ true
  d-small : is_small_move d ≡ true
  e-small : is_small_move e ≡ true

five_of : (cells : List Cell) → length cells ≡ 5 → list_all is_small_move cells ≡ true → IsFive cells
five_of [] five small = absurd (omega (arith, five))
five_of (v ∷ []) five small = absurd (omega (arith, five))
five_of (v ∷ w ∷ []) five small = absurd (omega (arith, five))
five_of (v ∷ w ∷ x ∷ []) five small = absurd (omega (arith, five))
five_of (v ∷ w ∷ x ∷ y ∷ []) five small = absurd (omega (arith, five))
five_of (v ∷ w ∷ x ∷ y ∷ z ∷ []) five small = search (rules, and_parts)
five_of (u ∷ v ∷ w ∷ x ∷ y ∷ z ∷ more) five small = absurd (omega (arith, five))

-- where reading stands after an entry
pub record ReadsEntry (given : List TurnedPiece) (table : Table) (front : List ℕ) (entry : Entry) : Type 0 where
  pub last : Cell
  pub on : (place : ℕ) (rest : List ℕ) → read_on (at given table Division) place (front ++ rest)
      ≡ read_on (at (given ++ entry.turned ∷ []) (table_with_entry table entry) (whole entry.turned 5 last)) (place + length front) rest

pub reads_entry : (given : List TurnedPiece) (table : Table) (front : List ℕ) (entry : Entry) → HasFive table → SpellsEntry front entry
    → is_repeated given entry.turned ≡ false → ReadsEntry given table front entry
reads_entry given table front entry five spelled fresh =
    let cells = five_of entry.offsets spelled.five spelled.small in
    let turned = entry.turned in
    let text = offsets_form entry.offsets in
    record {
      last = cells.e;
      on = λ place rest.
          let passes = offsets_pass (given ++ turned ∷ []) table turned place cells.a cells.b cells.c cells.d cells.e cells.a-small cells.b-small cells.c-small cells.d-small cells.e-small in
          let same : put_from table turned 1 (cells.a ∷ cells.b ∷ cells.c ∷ cells.d ∷ cells.e ∷ []) ≡ table_with_entry table entry =
          put_five table turned cells.a cells.b cells.c cells.d cells.e five ∙ ap (λ offsets. table_with_entry table (record { turned = turned; offsets = offsets })) (sym cells.are) in
          search (rules, begun);
    }
