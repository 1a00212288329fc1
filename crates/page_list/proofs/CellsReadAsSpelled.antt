-- The form of the cells field and the function that reads it agree.
use Rattle.std.proofs.Common.{◌≡◌, ℕ, ◌+◌, ◌-◌, ◌*◌, ◌≤◌, false, ◌==◌, nat_le, List, [], ◌∷◌, ◌++◌, length, length-append, map, replicate, codes, Option, Some, option_and_then, All, refl, ap, sym, subst, ◌∙◌, append-nil, inl, inr, ne_eqb, eqb-true, leb-true, le-leb, arith, rules}
use Rattle.std.specs.List.{flat_map, join_with_byte, AllByRecursion}
use Rattle.std.proofs.lemmas.Bool.{agree_below_at, cases_Bool}
use Rattle.std.proofs.lemmas.Bool.Decides.{nat_tests}
use Rattle.std.proofs.lemmas.List.{nil_from_length, length-map}
use Rattle.std.proofs.lemmas.List.Elements.{All-nil, All-cons, All-head, All-tail, All-append, All-map}
use Rattle.std.proofs.lemmas.List.Quantifiers.{position-Some}
use Rattle.std.proofs.lemmas.Option.{none-some, option_and_then_some, same_Some}
use Rattle.fumen_digits.proofs.CallerLemmas.{same_option, same_option-true}
use Rattle.fumen_pages.specs.Cells.{IsColour}
use Rattle.fumen_pages.proofs.CallerLemmas.{flat, length-flat}
use Rattle.fumen_pages.specs.Letters.{colour_letter, letters_of}
use Rattle.page_list.specs.CellsReading.{colour_in, with_front, rows_at, rows_colours, garbage_colours, cells_with_rows, cells_in, cut_at}
use Rattle.page_list.specs.LineSpelling.{IsPageRow, SpellsGarbage, left_out, written, SpellsLineCells}
use Rattle.page_list.proofs.CutLaws.{cut_front, cut_is}
use Rattle.page_list.proofs.ReadLemmas.{fronts}

-- ---- letters of colours

record IsLetterOf (byte colour : ℕ) : Type 0 where
  small : colour ≤ 8
  is : colour_letter colour ≡ byte

letter_read : (byte colour : ℕ) → colour_in byte ≡ Some colour → IsLetterOf byte colour
unfolding colour_letter
letter_read byte colour is = search (rules, position-Some, codes, eqb-true)

colour_read : (colour : ℕ) → colour ≤ 8 → colour_in (colour_letter colour) ≡ Some colour
unfolding colour_letter
colour_read colour small = search (rules, same_option-true, agree_below_at, same_option)

-- a letter is no bar
no_bar : (colour : ℕ) → colour ≤ 8 → (colour_letter colour == 124) ≡ false
unfolding colour_letter
no_bar colour small = agree_below_at (λ k. colour_letter k == 124) (λ _. false) 9 colour refl (omega arith)

-- ---- rows

-- the letters of rows with a `/` before each
abbrev pub slash_rows : List (List ℕ) → List ℕ
slash_rows rows = flat_map (λ row. 47 ∷ letters_of row) rows

pub joined : (row : List ℕ) (rows : List (List ℕ)) → join_with_byte 47 (map letters_of (row ∷ rows)) ≡ letters_of row ++ slash_rows rows
joined row [] = sym (append-nil (letters_of row))
joined row (next ∷ rows) = ap (λ (l : List ℕ). letters_of row ++ 47 ∷ l) (joined next rows)

length-slash_rows : (rows : List (List ℕ)) → All IsPageRow rows → length (slash_rows rows) ≡ 11 * length rows
length-slash_rows [] each = refl
length-slash_rows (row ∷ rows) each =
    search (rules, All-tail, All-head, length-append, length-map, length-slash_rows rows (All-tail IsPageRow row rows each))

pub length_of_rows : (rows : List (List ℕ)) → All IsPageRow rows → length (flat rows) ≡ 10 * length rows
length_of_rows rows each = length-flat rows (tens rows each)
  where
    tens : (rows : List (List ℕ)) → All IsPageRow rows → AllByRecursion (λ row. length row ≡ 10) rows
    tens [] each = tt
    tens (row ∷ rows) each = ((All-head IsPageRow row rows each).size, tens rows (All-tail IsPageRow row rows each))

-- the rest of a row, and the rows behind it
record RowsFrom (column : ℕ) (text colours : List ℕ) : Type 0 where
  first : List ℕ
  rows : List (List ℕ)
  size : column + length first ≡ 10
  front : All IsColour first
  each : All IsPageRow rows
  spelled : text ≡ letters_of first ++ slash_rows rows
  whole : colours ≡ first ++ flat rows

next_row : (rest : List ℕ) (byte column : ℕ) (colours : List ℕ) → column ≡ 10 → byte ≡ 47 → RowsFrom 0 rest colours → RowsFrom column (byte ∷ rest) colours
next_row rest byte column colours ten slash later = record {
  first = [];
  rows = later.first ∷ later.rows;
  size = omega (arith, ten);
  front = All-nil IsColour;
  each = All-cons IsPageRow later.first later.rows (record { size = let size = later.size in omega arith; colours = later.front }) later.each;
  spelled = ap (λ b. b ∷ rest) slash ∙ ap (λ (l : List ℕ). 47 ∷ l) later.spelled;
  whole = later.whole;
}

next_letter : (rest : List ℕ) (byte colour column : ℕ) (others colours : List ℕ) → column ≤ 10 → (column == 10) ≡ false → IsLetterOf byte colour → colour ∷ others ≡ colours → RowsFrom (column + 1) rest others → RowsFrom column (byte ∷ rest) colours
next_letter rest byte colour column others colours within short letter all later = record {
  first = colour ∷ later.first;
  rows = later.rows;
  size = omega (arith, later.size);
  front = All-cons IsColour colour later.first letter.small later.front;
  each = later.each;
  spelled = ap (λ b. b ∷ rest) (sym letter.is) ∙ ap (λ (l : List ℕ). colour_letter colour ∷ l) later.spelled;
  whole = sym all ∙ ap (λ (l : List ℕ). colour ∷ l) later.whole;
}

rows_spelled : (text : List ℕ) (column : ℕ) (colours : List ℕ) → column ≤ 10 → rows_at column text ≡ Some colours → RowsFrom column text colours
unfolding rows_at
rows_spelled [] column colours within is = elim (cases_Bool (column == 10)) [
  | inl ten ↦
      let none : [] ≡ colours = same_Some [] colours (rw ten at is) in
      let full = eqb-true column 10 ten in
      record { first = []; rows = []; size = omega (arith, full); front = All-nil IsColour; each = All-nil IsPageRow; spelled = refl; whole = sym none }
  | inr short ↦ absurd (none-some colours (rw short at is))
]
rows_spelled (byte ∷ rest) column colours within is = elim (cases_Bool (column == 10)) [
  | inl ten ↦ elim (cases_Bool (byte == 47)) [
    | inl slash ↦ next_row rest byte column colours (eqb-true column 10 ten) (eqb-true byte 47 slash) (rows_spelled rest 0 colours (omega arith) (rw (ten, slash) at is))
    | inr other ↦ absurd (none-some colours (rw (ten, other) at is))
  ]
  | inr short ↦
      option_and_then_some (λ colour. with_front (colour ∷ []) (rows_at (column + 1) rest)) (colour_in byte) colours (rw short at is) (λ colour letter read.
      option_and_then_some (λ others. Some (colour ∷ [] ++ others)) (rows_at (column + 1) rest) colours read (λ others later all.
      let less : column + 1 ≤ 10 = below column within short in
      next_letter rest byte colour column others colours within short (letter_read byte colour letter) (same_Some (colour ∷ others) colours all) (rows_spelled rest (column + 1) others less later)))
] where
  below : (column : ℕ) → column ≤ 10 → (column == 10) ≡ false → column + 1 ≤ 10
  below column within short = grind (arith, nat_tests)

-- ---- rows are read

no_front : (read : Option (List ℕ)) → with_front [] read ≡ read
no_front read = search rules

read_row : (first behind : List ℕ) (column : ℕ) → column + length first ≡ 10 → All IsColour first → rows_at column (letters_of first ++ behind) ≡ with_front first (rows_at 10 behind)
unfolding rows_at
read_row [] behind column size small = let ten : column ≡ 10 = omega arith in ap (λ n. rows_at n behind) ten ∙ sym (no_front (rows_at 10 behind))
read_row (colour ∷ first) behind column size small =
    search (rules, (ne_eqb column 10), (colour_read colour (All-head IsColour colour first small)), (read_row first behind (column + 1)), (All-tail IsColour colour first small), (fronts (colour ∷ []) first (rows_at 10 behind)))

read_rows : (rows : List (List ℕ)) → All IsPageRow rows → rows_at 10 (slash_rows rows) ≡ Some (flat rows)
unfolding rows_at
read_rows [] each = refl
read_rows (row ∷ rows) each =
    search (rules, All-head, read_row, All-tail, read_rows rows (All-tail IsPageRow row rows each))

read_all : (row : List ℕ) (rows : List (List ℕ)) → All IsPageRow (row ∷ rows) → rows_at 0 (letters_of row ++ slash_rows rows) ≡ Some (flat (row ∷ rows))
read_all row rows each = search (rules, (read_row row (slash_rows rows) 0), (All-head IsPageRow row rows each), (read_rows rows (All-tail IsPageRow row rows each)))

-- ---- up to 23 rows

record SpellsRows (text colours : List ℕ) : Type 0 where
  rows : List (List ℕ)
  most : length rows ≤ 23
  each : All IsPageRow rows
  spelled : text ≡ join_with_byte 47 (map letters_of rows)
  whole : colours ≡ flat rows

rows_from_read : (text colours : List ℕ) → rows_colours text ≡ Some colours → SpellsRows text colours
unfolding rows_colours
rows_from_read text colours is = elim (cases_Bool (length text == 0)) [
  | inl empty ↦
      let none : [] ≡ colours = same_Some [] colours (rw empty at is) in
      record { rows = []; most = omega arith; each = All-nil IsPageRow; spelled = nil_from_length text (eqb-true (length text) 0 empty); whole = sym none }
  | inr some ↦ elim (cases_Bool (nat_le (length text) 252)) [
    | inl few ↦
        let all = rows_spelled text 0 colours (omega arith) (rw (some, few) at is) in
        let most = leb-true (length text) 252 few in
        let size = ap length all.spelled ∙ length-append (letters_of all.first) (slash_rows all.rows) in
        record {
          rows = all.first ∷ all.rows;
          most = omega (arith, most, size, all.size, length-map all.first colour_letter, length-slash_rows all.rows all.each);
          each = All-cons IsPageRow all.first all.rows (record { size = let size = all.size in omega arith; colours = all.front }) all.each;
          spelled = all.spelled ∙ sym (joined all.first all.rows);
          whole = all.whole;
        }
    | inr many ↦ absurd (none-some colours (rw (some, many) at is))
  ]
]

read_from_rows : (rows : List (List ℕ)) → length rows ≤ 23 → All IsPageRow rows → rows_colours (join_with_byte 47 (map letters_of rows)) ≡ Some (flat rows)
unfolding rows_colours
read_from_rows [] most each = refl
read_from_rows (row ∷ rows) most each =
    search (rules, (length-append (letters_of row) (slash_rows rows)), (All-head IsPageRow row rows each), (length-map row colour_letter), (length-slash_rows rows (All-tail IsPageRow row rows each)), (ne_eqb (length (letters_of row ++ slash_rows rows)) 0), (le-leb (length (letters_of row ++ slash_rows rows)) 252), (joined row rows), (read_all row rows each))

-- ---- the garbage row

garbage_from_read : (text garbage : List ℕ) → garbage_colours text ≡ Some garbage → SpellsGarbage text garbage
unfolding garbage_colours
garbage_from_read text garbage is = elim (cases_Bool (length text == 0)) [
  | inl empty ↦
      let zeros : replicate 10 0 ≡ garbage = same_Some (replicate 10 0) garbage (rw empty at is) in
      subst (SpellsGarbage text) zeros (subst (λ t. SpellsGarbage t (replicate 10 0)) (sym (nil_from_length text (eqb-true (length text) 0 empty))) left_out)
  | inr some ↦ elim (cases_Bool (nat_le (length text) 10)) [
    | inl few ↦
        let all = rows_spelled text 0 garbage (omega arith) (rw (some, few) at is) in
        let most = leb-true (length text) 10 few in
        let size = ap length all.spelled ∙ length-append (letters_of all.first) (slash_rows all.rows) in
        let none : all.rows ≡ [] = nil_from_length all.rows (omega (arith, most, size, all.size, length-map all.first colour_letter, length-slash_rows all.rows all.each)) in
        let row : garbage ≡ all.first = all.whole ∙ ap (λ rows. all.first ++ flat rows) none ∙ append-nil all.first in
        let letters : text ≡ letters_of all.first = all.spelled ∙ ap (λ rows. letters_of all.first ++ slash_rows rows) none ∙ append-nil (letters_of all.first) in
        subst (λ t. SpellsGarbage t garbage) (sym letters) (subst (SpellsGarbage (letters_of all.first)) (sym row) (written (record { size = let size = all.size in omega arith; colours = all.front })))
    | inr many ↦ absurd (none-some garbage (rw (some, many) at is))
  ]
]

read_from_garbage : (text garbage : List ℕ) → SpellsGarbage text garbage → garbage_colours text ≡ Some garbage
unfolding garbage_colours
read_from_garbage text garbage left_out = refl
read_from_garbage text garbage (written {row = row} is) =
    search (rules, (length-map row colour_letter), (append-nil (letters_of row)), (read_all row [] (All-cons IsPageRow row [] is (All-nil IsPageRow))), (append-nil row))

-- ---- the whole field

pub cells_spelled : (text cells : List ℕ) → cells_in text ≡ Some cells → SpellsLineCells text cells
unfolding cells_in
cells_spelled text cells is =
    option_and_then_some (λ cut. option_and_then (λ rows. option_and_then (λ garbage. Some (cells_with_rows rows garbage)) (garbage_colours cut.1)) (rows_colours cut.0)) (cut_at 124 text) cells is (λ cut found behind.
    option_and_then_some (λ rows. option_and_then (λ garbage. Some (cells_with_rows rows garbage)) (garbage_colours cut.1)) (rows_colours cut.0) cells behind (λ rows above last.
    option_and_then_some (λ garbage. Some (cells_with_rows rows garbage)) (garbage_colours cut.1) cells last (λ garbage below all.
    made cut rows garbage found above below (same_Some (cells_with_rows rows garbage) cells all))))
  where
    made : (cut : List ℕ × List ℕ) (colours garbage : List ℕ) → cut_at 124 text ≡ Some cut → rows_colours cut.0 ≡ Some colours → garbage_colours cut.1 ≡ Some garbage → cells_with_rows colours garbage ≡ cells → SpellsLineCells text cells
    made cut colours garbage found above below all =
        let rows = rows_from_read cut.0 colours above in
        record {
          rows = rows.rows;
          most = let most = rows.most in omega arith;
          each = rows.each;
          garbage_text = cut.1;
          garbage = garbage;
          garbage_spelled = garbage_from_read cut.1 garbage below;
          spelled = (cut_is 124 text cut found).whole ∙ ap (λ (l : List ℕ). l ++ 124 ∷ cut.1) rows.spelled;
          cells_are = sym all ∙ ap (λ l. cells_with_rows l garbage) rows.whole ∙ ap (λ n. replicate (230 - n) 0 ++ (flat rows.rows ++ garbage)) (length_of_rows rows.rows rows.each);
        }

-- what holds of the letters of colours, and of `/`, holds of each byte of the rows
pub letters_all : (P : ℕ → Type 0) → ((colour : ℕ) → colour ≤ 8 → P (colour_letter colour)) → (row : List ℕ) → All IsColour row → All P (letters_of row)
letters_all P each row small = All-map P colour_letter row (λ k d within. each _ (small k d within))

pub rows_all : (P : ℕ → Type 0) → ((colour : ℕ) → colour ≤ 8 → P (colour_letter colour)) → P 47 → (rows : List (List ℕ)) → All IsPageRow rows → All P (join_with_byte 47 (map letters_of rows))
rows_all P each slash [] are = All-nil P
rows_all P each slash (row ∷ []) are = letters_all P each row (All-head IsPageRow row [] are).colours
rows_all P each slash (row ∷ next ∷ rows) are =
    let later = join_with_byte 47 (map letters_of (next ∷ rows)) in
    All-append P (letters_of row) (47 ∷ later) (letters_all P each row (All-head IsPageRow row (next ∷ rows) are).colours)
    (All-cons P 47 later slash (rows_all P each slash (next ∷ rows) (All-tail IsPageRow row (next ∷ rows) are)))

pub spelled_cells_read : (text cells : List ℕ) → SpellsLineCells text cells → cells_in text ≡ Some cells
unfolding cells_in
spelled_cells_read text cells s =
    search (rules, (cut_front 124 (join_with_byte 47 (map letters_of s.rows)) s.garbage_text (rows_all (λ byte. (byte == 124) ≡ false) no_bar refl s.rows s.each)), (read_from_rows s.rows s.most s.each), (read_from_garbage s.garbage_text s.garbage s.garbage_spelled), (length_of_rows s.rows s.each))
