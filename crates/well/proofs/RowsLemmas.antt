-- What is read of a rows text, byte by byte.
use Rattle.std.proofs.Common.{◌≡◌, ℕ, zero, suc, ◌+◌, ◌<◌, ◌≤◌, true, false, cond, ◌&&◌, ◌||◌, ◌==◌, Some, None, List, [], ◌∷◌, ◌++◌, length, get_or, take, drop, reverse, refl, sym, ap, subst, ◌∙◌, inl, inr, arith, rules}
use Rattle.std.proofs.Math.Path.{fun_ext}
use Rattle.std.specs.List.{slice_split, onto_first}
use Rattle.std.proofs.lemmas.Bool.{cases_Bool, cases_order, cond-true, cond-false, and_left, and_right, ne_eqb, eq-eqb}
use Rattle.std.proofs.lemmas.List.{reverse-append, length-reverse, get_or_append_left, get_or_push, get_or_past, length_push, take_more, drop_more, take_all, drop_all}
use Rattle.std.proofs.lemmas.List.Splits.{length-slice_split, slice_split-cons_yes, slice_split-cons_no}
use Rattle.lane_board.specs.Field.{Field, empty_field, with_cell}
use Rattle.lane_board.proofs.CallerLemmas.{or_none}
use Rattle.well.specs.declared.rows.RowsFault.{RowsFault}
use Rattle.well.specs.Rows.{is_slash, is_filled_char, fault_at_byte, fault_at_end, fault_from, rows_fault, written_cells}
use Rattle.well.specs.RowsReading.{raised}

-- the rows of a text, the last first
pub rows_of : List ℕ → List (List ℕ)
rows_of text = reverse (slice_split is_slash text)

pub has_row : (text : List ℕ) → 0 < length (slice_split is_slash text)
has_row text = omega (arith, length-slice_split is_slash text)

-- a byte after the last row of a list, or after the first
push_last : ℕ → List (List ℕ) → List (List ℕ)
push_last c [] = (c ∷ []) ∷ []
push_last c (row ∷ []) = (row ++ c ∷ []) ∷ []
push_last c (row ∷ next ∷ rows) = row ∷ push_last c (next ∷ rows)

push_first : ℕ → List (List ℕ) → List (List ℕ)
push_first c [] = (c ∷ []) ∷ []
push_first c (row ∷ rows) = (row ++ c ∷ []) ∷ rows

onto_first-append : (x : ℕ) (rows more : List (List ℕ)) → 0 < length rows → onto_first x (rows ++ more) ≡ onto_first x rows ++ more
onto_first-append x rows more some = search rules

push_last-cons : (c : ℕ) (row : List ℕ) (rows : List (List ℕ)) → 0 < length rows → push_last c (row ∷ rows) ≡ row ∷ push_last c rows
unfolding push_last
push_last-cons c row rows some = search rules

push_last-onto : (x c : ℕ) (rows : List (List ℕ)) → 0 < length rows → onto_first x (push_last c rows) ≡ push_last c (onto_first x rows)
unfolding push_last
push_last-onto x c rows some = search rules

push_first-append : (c : ℕ) (rows more : List (List ℕ)) → 0 < length rows → push_first c rows ++ more ≡ push_first c (rows ++ more)
unfolding push_first
push_first-append c rows more some = search rules

split_slash : (text : List ℕ) (c : ℕ) → is_slash c ≡ true → slice_split is_slash (text ++ c ∷ []) ≡ slice_split is_slash text ++ [] ∷ []
split_slash [] c slash = slice_split-cons_yes is_slash c [] slash
split_slash (x ∷ xs) c slash =
    search (rules, cases_Bool, slice_split-cons_yes, slice_split-cons_no, onto_first-append, has_row, (split_slash xs c slash))

split_character : (text : List ℕ) (c : ℕ) → is_slash c ≡ false → slice_split is_slash (text ++ c ∷ []) ≡ push_last c (slice_split is_slash text)
unfolding push_last
split_character [] c other = slice_split-cons_no is_slash c [] other
split_character (x ∷ xs) c other =
    search (rules, cases_Bool, slice_split-cons_yes, push_last-cons, has_row, slice_split-cons_no, push_last-onto, (split_character xs c other))

reverse_cons : (row : List ℕ) (rows : List (List ℕ)) → reverse (row ∷ rows) ≡ reverse rows ++ row ∷ []
reverse_cons row rows = reverse-append (row ∷ []) rows

reverse-push : (c : ℕ) (rows : List (List ℕ)) → 0 < length rows → reverse (push_last c rows) ≡ push_first c (reverse rows)
unfolding push_last push_first
reverse-push c [] some = absurd (omega arith)
reverse-push c (row ∷ []) some = refl
reverse-push c (row ∷ next ∷ rows) some =
    reverse_cons row (push_last c (next ∷ rows)) ∙ ap (λ r. r ++ row ∷ []) (reverse-push c (next ∷ rows) (omega arith))
    ∙ push_first-append c (reverse (next ∷ rows)) (row ∷ []) (omega (arith, length-reverse (next ∷ rows)))
    ∙ sym (ap (push_first c) (reverse_cons row (next ∷ rows)))

rows_slash : (text : List ℕ) (c : ℕ) → is_slash c ≡ true → rows_of (text ++ c ∷ []) ≡ [] ∷ rows_of text
unfolding rows_of
rows_slash text c slash = ap reverse (split_slash text c slash) ∙ reverse-append (slice_split is_slash text) ([] ∷ [])

rows_character : (text : List ℕ) (c : ℕ) → is_slash c ≡ false → rows_of (text ++ c ∷ []) ≡ push_first c (rows_of text)
unfolding rows_of
rows_character text c other = ap reverse (split_character text c other) ∙ reverse-push c (slice_split is_slash text) (has_row text)

some_rows : (text : List ℕ) → 0 < length (rows_of text)
unfolding rows_of
some_rows text = omega (arith, length-reverse (slice_split is_slash text), has_row text)

-- the filled cells of rows, the lowest first
pub cells_of_rows : List (List ℕ) → Field
cells_of_rows rows x y = is_filled_char (get_or (get_or rows y []) x 0)

-- a row with one more character
one_more : (row : List ℕ) (c x n : ℕ) → n ≡ length row → is_filled_char (get_or (row ++ c ∷ []) x 0) ≡ (is_filled_char (get_or row x 0) || (x == n && is_filled_char c))
one_more row c x n size = elim (cases_order x n) [
  | inl same ↦ search (rules, get_or_push, get_or_past, eq-eqb)
  | inr apart ↦ search (rules, or_none, and_left, ne_eqb, get_or_append_left, get_or_past, length_push)
]

cells_slash : (rows : List (List ℕ)) → cells_of_rows ([] ∷ rows) ≡ raised (cells_of_rows rows)
unfolding cells_of_rows raised
cells_slash rows = search (rules, fun_ext)

cells_filled : (rows : List (List ℕ)) (c n : ℕ) → 0 < length rows → length (get_or rows 0 []) ≡ n → is_filled_char c ≡ true → cells_of_rows (push_first c rows) ≡ with_cell (cells_of_rows rows) n 0
unfolding cells_of_rows push_first with_cell
cells_filled [] c n some size filled = absurd (omega arith)
cells_filled (row ∷ rows) c n some size filled = fun_ext (λ x. fun_ext (at x))
  where
    at : (x y : ℕ) → cells_of_rows (push_first c (row ∷ rows)) x y ≡ with_cell (cells_of_rows (row ∷ rows)) n 0 x y
    at x y = search (rules, one_more, or_none, and_right, ne_eqb)

cells_empty : (rows : List (List ℕ)) (c n : ℕ) → 0 < length rows → length (get_or rows 0 []) ≡ n → is_filled_char c ≡ false → cells_of_rows (push_first c rows) ≡ cells_of_rows rows
unfolding cells_of_rows push_first
cells_empty [] c n some size empty = absurd (omega arith)
cells_empty (row ∷ rows) c n some size empty = fun_ext (λ x. fun_ext (at x))
  where
    at : (x y : ℕ) → cells_of_rows (push_first c (row ∷ rows)) x y ≡ cells_of_rows (row ∷ rows) x y
    at x zero = one_more row c x n (sym size) ∙ or_none _ _ (and_right _ _ empty)
    at x (suc y) = refl

-- what was read: the cells, and the characters of the last row
pub record HasRead (text : List ℕ) (characters : ℕ) (F : Field) : Type 0 where
  pub cells : F ≡ cells_of_rows (rows_of text)
  pub characters_are : length (get_or (rows_of text) 0 []) ≡ characters

has_read_nothing : cells_of_rows (rows_of []) ≡ empty_field
unfolding cells_of_rows rows_of empty_field
has_read_nothing = search (rules, fun_ext)

pushed_length : (rows : List (List ℕ)) (c n : ℕ) → 0 < length rows → length (get_or rows 0 []) ≡ n → length (get_or (push_first c rows) 0 []) ≡ n + 1
unfolding push_first
pushed_length rows c n some size = search (rules, length_push)

has_read_more : (text : List ℕ) (n byte m : ℕ) (F G : Field) → HasRead text n F → m ≡ cond (is_slash byte) 0 (n + 1) →
    G ≡ cond (is_slash byte) (raised F) (cond (is_filled_char byte) (with_cell F n 0) F) → HasRead (text ++ byte ∷ []) m G
has_read_more text n byte m F G read characters cells =
    search (rules, cases_Bool, cond-true, rows_slash, cells_slash, cond-false, rows_character, pushed_length, some_rows, cells_filled, cells_empty)

-- what is due after the first i bytes is the first fault of the text
pub record Progress (text : List ℕ) (i row characters : ℕ) (F : Field) : Type 0 where
  pub read : HasRead (take i text) characters F
  pub due : fault_from row characters i (drop i text) ≡ rows_fault text

pub starts : (text : List ℕ) (row n : ℕ) (F : Field) → 0 < length text → F ≡ empty_field → row ≡ 1 → n ≡ 0 → Progress text 0 row n F
unfolding rows_fault rows_of
starts text row n F some cells first none = search (rules, has_read_nothing)

due_more : (row n place byte row' n' : ℕ) (rest : List ℕ) → fault_at_byte row n place byte ≡ None → row' ≡ cond (is_slash byte) (row + 1) row → n' ≡ cond (is_slash byte) 0 (n + 1) →
    fault_from row n place (byte ∷ rest) ≡ fault_from row' n' (place + 1) rest
unfolding fault_from
due_more row n place byte row' n' rest none next characters = search (rules, cases_Bool, cond-true, cond-false)

pub goes_on : (text : List ℕ) (i row n byte row' n' : ℕ) (F G : Field) → i < length text → byte ≡ get_or text i 0 → Progress text i row n F → fault_at_byte row n i byte ≡ None →
    row' ≡ cond (is_slash byte) (row + 1) row → n' ≡ cond (is_slash byte) 0 (n + 1) → G ≡ cond (is_slash byte) (raised F) (cond (is_filled_char byte) (with_cell F n 0) F) → Progress text (i + 1) row' n' G
goes_on text i row n byte row' n' F G within at progress none next characters cells = record {
  read = subst (λ front. HasRead front n' G) (ap (λ b. take i text ++ b ∷ []) at ∙ sym (take_more text i 0 within)) (has_read_more (take i text) n byte n' F G progress.read characters cells);
  due = search (rules, due_more, drop_more);
}

pub faults : (text : List ℕ) (i row n byte : ℕ) (F : Field) (fault : RowsFault) → i < length text → byte ≡ get_or text i 0 → Progress text i row n F → fault_at_byte row n i byte ≡ Some fault → rows_fault text ≡ Some fault
unfolding fault_from
faults text i row n byte F fault within at progress due = search (rules, drop_more)

pub due_at_end : (text : List ℕ) (i row n : ℕ) (F : Field) → length text ≤ i → Progress text i row n F → rows_fault text ≡ fault_at_end row n
unfolding fault_from
due_at_end text i row n F all progress = sym progress.due ∙ ap (fault_from row n i) (drop_all i text all)

pub cells_at_end : (text : List ℕ) (i row n : ℕ) (F : Field) → length text ≤ i → Progress text i row n F → F ≡ written_cells text
unfolding written_cells cells_of_rows rows_of
cells_at_end text i row n F all progress = progress.read.cells ∙ ap (λ t. cells_of_rows (rows_of t)) (take_all i text all)

-- the empty text
pub nothing_written : (text : List ℕ) → length text ≡ 0 → written_cells text ≡ empty_field
unfolding written_cells cells_of_rows rows_of
nothing_written [] none = has_read_nothing
nothing_written (x ∷ xs) none = absurd (omega arith)

pub nothing_at_fault : (text : List ℕ) → length text ≡ 0 → rows_fault text ≡ None
unfolding rows_fault
nothing_at_fault text none = search rules

-- what lies below a row lies, raised, below the next
pub raised-above : (F : Field) (row x y : ℕ) → ((x y : ℕ) → row ≤ y → F x y ≡ false) → row + 1 ≤ y → raised F x y ≡ false
unfolding raised
raised-above F row x y low above = search rules
