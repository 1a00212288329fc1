-- The first fault of a text that is no rows text is the one that its reading meets.
use Rattle.std.proofs.Common.{◌≡◌, ◌≢◌, ℕ, ◌+◌, ◌<◌, ◌≤◌, true, false, ◌==◌, Some, List, [], ◌∷◌, ◌++◌, length, length-append, append-nil, append_assoc, refl, sym, ap, subst, ◌∙◌, ◌⊎◌, inl, inr, arith, All, true≢false, rules}
use Rattle.std.proofs.lemmas.Bool.{cases_Bool, eqb-true, eqb-false, ne_eqb, eq-eqb}
use Rattle.std.proofs.lemmas.Grind.{flat_map-append}
use Rattle.std.proofs.lemmas.List.Elements.{All-nil, All-cons, All-append, All-head, All-tail}
use Rattle.std.proofs.lemmas.Option.{none-some, same_Some}
use Rattle.well.specs.declared.rows.RowsFault.{RowsFault}
use Rattle.well.specs.declared.rows.RowsFault.TheVariants.{BadRowChar, BadRowLength, TooManyRows}
use Rattle.well.specs.Rows.{is_slash, is_row_char, IsRow, fault_from, rows_fault}
use Rattle.well.specs.RowsFaults.{slashed, Begins, IsBadLength, HasTooManyRows, IsRowsFault}
use Rattle.well.proofs.RowsTexts.{slash_goes_on, slash_short, slash_last, character_goes_on, character_past, character_bad}

abbrev IsRowChar : ℕ → Type 0
IsRowChar byte = is_row_char byte ≡ true

-- a text has a byte, and its reading stands before these bytes of it
record Stands (text : List ℕ) (rows : List (List ℕ)) (begun bytes : List ℕ) (row n place : ℕ) : Type 0 where
  some : text ≢ []
  begins : Begins text rows begun bytes
  number : row ≡ length rows + 1
  size : n ≡ length begun
  at : place ≡ length (slashed rows ++ begun)

-- ---- the fault that is met is the text's

slashed-more : (rows : List (List ℕ)) (row rest : List ℕ) → (slashed (rows ++ row ∷ []) ++ []) ++ rest ≡ (slashed rows ++ row) ++ 47 ∷ rest
slashed-more rows row rest = simp (flat_map-append, append-nil, append_assoc)

begun-more : (front begun rest : List ℕ) (byte : ℕ) → (front ++ (begun ++ byte ∷ [])) ++ rest ≡ (front ++ begun) ++ byte ∷ rest
begun-more front begun rest byte = simp append_assoc

slashed-size : (rows : List (List ℕ)) (row : List ℕ) → length (slashed rows ++ row) + 1 ≡ length (slashed (rows ++ row ∷ []) ++ [])
slashed-size rows row = sym (ap length (sym (append-nil (slashed (rows ++ row ∷ []) ++ [])) ∙ slashed-more rows row []) ∙ length-append (slashed rows ++ row) (47 ∷ []))

begun-size : (front begun : List ℕ) (byte : ℕ) → length (front ++ begun) + 1 ≡ length (front ++ (begun ++ byte ∷ []))
begun-size front begun byte = omega (arith, length-append {A = ℕ})

-- a slash behind a tenth character, before row 23
after_slash : (text : List ℕ) (rows : List (List ℕ)) (begun bytes : List ℕ) (row n place byte : ℕ) → Stands text rows begun (byte ∷ bytes) row n place
    → byte ≡ 47 → n ≡ 10 → row < 23 → Stands text (rows ++ begun ∷ []) [] bytes (row + 1) 0 (place + 1)
after_slash text rows begun bytes row n place byte s slash ten more = record {
  some = s.some;
  begins = record {
    divided = s.begins.divided ∙ ap (λ b. (slashed rows ++ begun) ++ b ∷ bytes) slash ∙ sym (slashed-more rows begun bytes);
    each = All-append IsRow rows (begun ∷ []) s.begins.each (All-cons IsRow begun [] (record { ten = omega (arith, s.size, ten); characters = s.begins.characters }) (All-nil IsRow));
    few = omega (arith, length-append rows (begun ∷ []), s.number, more);
    characters = All-nil IsRowChar;
    short = omega arith;
  };
  number = omega (arith, length-append rows (begun ∷ []), s.number);
  size = refl;
  at = ap (λ m. m + 1) s.at ∙ slashed-size rows begun;
}

-- a character before the eleventh
after_character : (text : List ℕ) (rows : List (List ℕ)) (begun bytes : List ℕ) (row n place byte : ℕ) → Stands text rows begun (byte ∷ bytes) row n place
    → IsRowChar byte → n ≢ 10 → Stands text rows (begun ++ byte ∷ []) bytes row (n + 1) (place + 1)
after_character text rows begun bytes row n place byte s character few = record {
  some = s.some;
  begins = record {
    divided = s.begins.divided ∙ sym (begun-more (slashed rows) begun bytes byte);
    each = s.begins.each;
    few = s.begins.few;
    characters = All-append IsRowChar begun (byte ∷ []) s.begins.characters (All-cons IsRowChar byte [] character (All-nil IsRowChar));
    short = omega (arith, length-append begun (byte ∷ []), s.size, s.begins.short, few);
  };
  number = s.number;
  size = omega (arith, length-append begun (byte ∷ []), s.size);
  at = ap (λ m. m + 1) s.at ∙ begun-size (slashed rows) begun byte;
}

-- 23 rows and a slash behind each
past_last : (text : List ℕ) (rows : List (List ℕ)) (begun bytes : List ℕ) (row n place byte : ℕ) → Stands text rows begun (byte ∷ bytes) row n place
    → byte ≡ 47 → n ≡ 10 → row ≡ 23 → HasTooManyRows text
past_last text rows begun bytes row n place byte s slash ten last = record {
  rows = rows ++ begun ∷ [];
  rest = bytes;
  divided = s.begins.divided ∙ ap (λ b. (slashed rows ++ begun) ++ b ∷ bytes) slash ∙ sym (slashed-more rows begun bytes) ∙ ap (λ front. front ++ bytes) (append-nil (slashed (rows ++ begun ∷ [])));
  each = All-append IsRow rows (begun ∷ []) s.begins.each (All-cons IsRow begun [] (record { ten = omega (arith, s.size, ten); characters = s.begins.characters }) (All-nil IsRow));
  many = omega (arith, length-append rows (begun ∷ []), s.number, last);
}

bad_length : (text : List ℕ) (rows : List (List ℕ)) (begun bytes : List ℕ) (row n place : ℕ) (fault : RowsFault) → Stands text rows begun bytes row n place
    → IsBadLength begun bytes → Some (BadRowLength row) ≡ Some fault → IsRowsFault text fault
bad_length text rows begun bytes row n place fault s wrong is = search (rules, same_Some)

below_ten : (begun : List ℕ) (n : ℕ) → n ≡ length begun → length begun ≤ 10 → (n == 10) ≡ false → length begun < 10
below_ten begun n size short other = omega (arith, size, short, eqb-false n 10 other)

-- what is claimed of the bytes that are left
abbrev IsMet : List ℕ → Type 0
IsMet bytes = (text : List ℕ) (rows : List (List ℕ)) (begun : List ℕ) (row n place : ℕ) (fault : RowsFault) → Stands text rows begun bytes row n place
    → fault_from row n place bytes ≡ Some fault → IsRowsFault text fault

at_end : (text : List ℕ) (rows : List (List ℕ)) (begun : List ℕ) (row n place : ℕ) (fault : RowsFault) → Stands text rows begun [] row n place
    → fault_from row n place [] ≡ Some fault → ((n == 10) ≡ true) ⊎ ((n == 10) ≡ false) → IsRowsFault text fault
unfolding fault_from
at_end text rows begun row n place fault s is h9 = search (rules, none-some, bad_length, below_ten)

at_slash : (text : List ℕ) (rows : List (List ℕ)) (begun bytes : List ℕ) (row n place byte : ℕ) (fault : RowsFault) → IsMet bytes → Stands text rows begun (byte ∷ bytes) row n place
    → fault_from row n place (byte ∷ bytes) ≡ Some fault → is_slash byte ≡ true → ((n == 10) ≡ true) ⊎ ((n == 10) ≡ false) → ((row == 23) ≡ true) ⊎ ((row == 23) ≡ false) → IsRowsFault text fault
at_slash text rows begun bytes row n place byte fault later s is slash (inl ten) (inl last) =
    subst (IsRowsFault text) (same_Some TooManyRows fault (sym (slash_last row n place byte bytes slash ten last) ∙ is))
    (past_last text rows begun bytes row n place byte s (eqb-true byte 47 slash) (eqb-true n 10 ten) (eqb-true row 23 last))
at_slash text rows begun bytes row n place byte fault later s is slash (inl ten) (inr more) =
    let few : row < 23 = omega (arith, s.number, s.begins.few, eqb-false row 23 more) in
    later text (rows ++ begun ∷ []) [] (row + 1) 0 (place + 1) fault
    (after_slash text rows begun bytes row n place byte s (eqb-true byte 47 slash) (eqb-true n 10 ten) few)
    (sym (slash_goes_on row n place byte bytes slash ten more) ∙ is)
at_slash text rows begun bytes row n place byte fault later s is slash (inr other) last =
    search (rules, bad_length, below_ten, eqb-true, slash_short)

at_other : (text : List ℕ) (rows : List (List ℕ)) (begun bytes : List ℕ) (row n place byte : ℕ) (fault : RowsFault) → IsMet bytes → Stands text rows begun (byte ∷ bytes) row n place
    → fault_from row n place (byte ∷ bytes) ≡ Some fault → is_slash byte ≡ false → (is_row_char byte ≡ true) ⊎ (is_row_char byte ≡ false) → ((n == 10) ≡ true) ⊎ ((n == 10) ≡ false) → IsRowsFault text fault
at_other text rows begun bytes row n place byte fault later s is other (inl character) (inl ten) =
    search (rules, bad_length, eqb-true, character_past)
at_other text rows begun bytes row n place byte fault later s is other (inl character) (inr few) =
    later text rows (begun ++ byte ∷ []) row (n + 1) (place + 1) fault (after_character text rows begun bytes row n place byte s character (eqb-false n 10 few))
    (sym (character_goes_on row n place byte bytes other character few) ∙ is)
at_other text rows begun bytes row n place byte fault later s is other (inr bad) size =
    subst (IsRowsFault text) (same_Some (BadRowChar place) fault (sym (character_bad row n place byte bytes other bad) ∙ is))
    (record { rows = rows; begun = begun; byte = byte; rest = bytes; begins = s.begins; no_slash = eqb-false byte 47 other; no_character = bad; stands = s.at })

met : (bytes : List ℕ) → IsMet bytes
met [] text rows begun row n place fault s is = at_end text rows begun row n place fault s is (cases_Bool (n == 10))
met (byte ∷ bytes) text rows begun row n place fault s is = elim (cases_Bool (is_slash byte)) [
  | inl slash ↦ at_slash text rows begun bytes row n place byte fault (met bytes) s is slash (cases_Bool (n == 10)) (cases_Bool (row == 23))
  | inr other ↦ at_other text rows begun bytes row n place byte fault (met bytes) s is other (cases_Bool (is_row_char byte)) (cases_Bool (n == 10))
]

pub fault_explained : (text : List ℕ) (fault : RowsFault) → rows_fault text ≡ Some fault → IsRowsFault text fault
unfolding rows_fault
fault_explained [] fault is = absurd (none-some fault is)
fault_explained (byte ∷ bytes) fault is = met (byte ∷ bytes) (byte ∷ bytes) [] [] 1 0 0 fault start is
  where
    start : Stands (byte ∷ bytes) [] [] (byte ∷ bytes) 1 0 0
    start = search (rules, All-nil)

-- ---- the text's fault is met

slash_is_none : is_row_char 47 ≡ false
slash_is_none = refl

no_slash : (byte : ℕ) → IsRowChar byte → is_slash byte ≡ false
no_slash byte character = ne_eqb byte 47 (λ slash. true≢false (sym (ap is_row_char (sym slash) ∙ character) ∙ slash_is_none))

same_from : {a b c d e f : ℕ} (rest : List ℕ) → a ≡ b → c ≡ d → e ≡ f → fault_from a c e rest ≡ fault_from b d f rest
same_from rest row n place = cc

-- characters of a row pass
characters-pass : (begun : List ℕ) (row n place : ℕ) (rest : List ℕ) → All IsRowChar begun → n + length begun ≤ 10
    → fault_from row n place (begun ++ rest) ≡ fault_from row (n + length begun) (place + length begun) rest
characters-pass [] row n place rest characters few = same_from rest refl (omega arith) (omega arith)
characters-pass (byte ∷ begun) row n place rest characters few =
    let first = All-head IsRowChar byte begun characters in
    character_goes_on row n place byte (begun ++ rest) (no_slash byte first) first (ne_eqb n 10 (λ ten. omega (arith, ten, few)))
    ∙ characters-pass begun row (n + 1) (place + 1) rest (All-tail IsRowChar byte begun characters) (omega (arith, few))
    ∙ same_from rest refl (omega arith) (omega arith)

-- a row passes up to the slash behind it
row-passes : (row : List ℕ) (number place : ℕ) (rest : List ℕ) → IsRow row → fault_from number 0 place (row ++ 47 ∷ rest) ≡ fault_from number 10 (place + length row) (47 ∷ rest)
row-passes row number place rest is = search (rules, characters-pass)

slashed-first : (row : List ℕ) (rows : List (List ℕ)) (rest : List ℕ) → slashed (row ∷ rows) ++ rest ≡ row ++ 47 ∷ (slashed rows ++ rest)
slashed-first row rows rest = simp append_assoc

-- rows before row 23 pass, with a slash behind each
rows-pass : (rows : List (List ℕ)) (number place : ℕ) (rest : List ℕ) → All IsRow rows → number + length rows ≤ 23
    → fault_from number 0 place (slashed rows ++ rest) ≡ fault_from (number + length rows) 0 (place + length (slashed rows)) rest
rows-pass [] number place rest each few = same_from rest (omega arith) refl (omega arith)
rows-pass (row ∷ rows) number place rest each few =
    ap (fault_from number 0 place) (slashed-first row rows rest)
    ∙ row-passes row number place (slashed rows ++ rest) (All-head IsRow row rows each)
    ∙ slash_goes_on number 10 (place + length row) 47 (slashed rows ++ rest) refl refl (ne_eqb number 23 (λ last. omega (arith, last, few)))
    ∙ rows-pass rows (number + 1) (place + length row + 1) rest (All-tail IsRow row rows each) (omega (arith, few))
    ∙ same_from rest (omega arith) refl (omega (arith, length-append (row ++ 47 ∷ []) (slashed rows), length-append row (47 ∷ [])))

-- a 24th row begins
rows-many : (rows : List (List ℕ)) (number place : ℕ) (rest : List ℕ) → All IsRow rows → 0 < length rows → number + length rows ≡ 24
    → fault_from number 0 place (slashed rows ++ rest) ≡ Some TooManyRows
rows-many [] number place rest each some last = absurd (omega (arith, some))
rows-many (row ∷ []) number place rest each some last =
    ap (fault_from number 0 place) (slashed-first row [] rest)
    ∙ row-passes row number place rest (All-head IsRow row [] each)
    ∙ slash_last number 10 (place + length row) 47 rest refl refl (eq-eqb number 23 (omega (arith, last)))
rows-many (row ∷ next ∷ rows) number place rest each some last =
    ap (fault_from number 0 place) (slashed-first row (next ∷ rows) rest)
    ∙ row-passes row number place (slashed (next ∷ rows) ++ rest) (All-head IsRow row (next ∷ rows) each)
    ∙ slash_goes_on number 10 (place + length row) 47 (slashed (next ∷ rows) ++ rest) refl refl (ne_eqb number 23 (λ is. omega (arith, is, last)))
    ∙ rows-many (next ∷ rows) (number + 1) (place + length row + 1) rest (All-tail IsRow row (next ∷ rows) each) (omega arith) (omega (arith, last))

rows_fault-some : (text : List ℕ) → text ≢ [] → rows_fault text ≡ fault_from 1 0 0 text
unfolding rows_fault
rows_fault-some text some = search rules

-- what a text begins with passes
begun-passes : (text : List ℕ) (rows : List (List ℕ)) (begun rest : List ℕ) → text ≢ [] → Begins text rows begun rest
    → rows_fault text ≡ fault_from (length rows + 1) (length begun) (length (slashed rows ++ begun)) rest
begun-passes text rows begun rest some b =
    rows_fault-some text some
    ∙ ap (fault_from 1 0 0) (b.divided ∙ append_assoc (slashed rows) begun rest)
    ∙ rows-pass rows 1 0 (begun ++ rest) b.each (omega (arith, b.few))
    ∙ characters-pass begun (1 + length rows) 0 (0 + length (slashed rows)) rest b.characters (omega (arith, b.short))
    ∙ same_from rest (omega arith) (omega arith) (omega (arith, length-append (slashed rows) begun))

-- the text has a byte
some_byte : (front rest text : List ℕ) (byte : ℕ) → text ≡ front ++ byte ∷ rest → text ≢ []
some_byte front rest text byte is none = absurd (omega (arith, ap length (sym none ∙ is), length-append front (byte ∷ rest)))

bad_length-met : (text rest begun : List ℕ) (rows : List (List ℕ)) → IsBadLength begun rest
    → fault_from (length rows + 1) (length begun) (length (slashed rows ++ begun)) rest ≡ Some (BadRowLength (length rows + 1))
unfolding fault_from
bad_length-met text rest begun rows wrong = search (rules, ne_eqb, character_past, no_slash, eq-eqb, slash_short)

pub explained_fault : (text : List ℕ) (fault : RowsFault) → IsRowsFault text fault → rows_fault text ≡ Some fault
explained_fault text (BadRowChar place) f =
    begun-passes text f.rows f.begun (f.byte ∷ f.rest) (some_byte (slashed f.rows ++ f.begun) f.rest text f.byte f.begins.divided) f.begins
    ∙ character_bad (length f.rows + 1) (length f.begun) (length (slashed f.rows ++ f.begun)) f.byte f.rest (ne_eqb f.byte 47 f.no_slash) f.no_character
    ∙ ap (λ p. Some (BadRowChar p)) (sym f.stands)
explained_fault text (BadRowLength row) f =
    begun-passes text f.rows f.begun f.rest f.some f.begins ∙ bad_length-met text f.rest f.begun f.rows f.wrong ∙ ap (λ r. Some (BadRowLength r)) (sym f.number)
explained_fault text TooManyRows f = search (rules, rows_fault-some, rows-many, some)
  where
    some : text ≢ []
    some none = absurd (nonempty f.rows f.many (sym none ∙ f.divided))
      where
        nonempty : (rows : List (List ℕ)) → length rows ≡ 23 → [] ≡ slashed rows ++ f.rest → ⊥
        nonempty [] many is = absurd (omega (arith, many))
        nonempty (row ∷ rows) many is = absurd (omega (arith, ap length (is ∙ slashed-first row rows f.rest), length-append row (47 ∷ (slashed rows ++ f.rest))))
