-- The pages of a line: they can be written, they show the fields between the placements, and the last one leaves none.
use Rattle.std.proofs.lemmas.Grind.{common_steps}
use Rattle.std.proofs.Common.{◌≡◌, ℕ, zero, suc, ◌+◌, ◌*◌, ◌<◌, ◌≤◌, ◌^◌, Bool, true, false, not, cond, ◌==◌, All, List, [], ◌∷◌, ◌++◌, length, take, drop, map, Option, Some, None, leb, le-leb, refl, sym, ap, subst, ◌∙◌, arith, append_assoc, append-nil, get_or, rules}
use Rattle.std.specs.Prelude.{replicate}
use Rattle.std.specs.List.{list_all, AllByRecursion}
use Rattle.std.specs.Option.{option_or}
use Rattle.std.proofs.Math.Path.{fun_ext}
use Rattle.std.proofs.lemmas.Bool.{eqb-true, le-ltb, not-false}
use Rattle.std.proofs.lemmas.List.{take_at, drop_at, length-append, length-map}
use Rattle.std.proofs.lemmas.List.Elements.{All-append, All-cons, All-nil, All-map, All-replicate}
use Rattle.std.proofs.lemmas.List.Sums.{list_all-from_AllPass}
use Rattle.lane_board.specs.Field.{Field}
use Rattle.lane_board.specs.FullRows.{columns, without_full_rows}
use Rattle.srs.specs.declared.piece.Piece.{Piece}
use Rattle.srs.specs.declared.placement.Placement.{Placement}
use Rattle.srs.specs.Piece.{piece_code}
use Rattle.srs.specs.Cells.{Cell, in_well, cells_of, is_inside_of}
use Rattle.well.specs.Lock.{together, locked}
use Rattle.moves.specs.declared.key.Key.{Key}
use Rattle.moves.specs.Keys.{key_letter, word_letters}
use Rattle.fumen_digits.specs.declared.dialect.Dialect.TheVariants.{V115}
use Rattle.fumen_comment.specs.Escape.{escaped, escaped_unit, stays, HasUnits}
use Rattle.fumen_pages.specs.declared.page.Page.{Page}
use Rattle.fumen_pages.specs.Cells.{AreCells, IsColour}
use Rattle.fumen_pages.specs.Action.{in_rows, is_inside_in}
use Rattle.fumen_pages.specs.Sound.{IsSound}
use Rattle.fumen_pages.specs.Next.{rows_in, rows_of, cells_of_rows, operation_filled, empty_row, marked, without_full, next}
use Rattle.fumen_pages.proofs.CallerLemmas.{flat, flat-rows_in, next_cells_sound}
use Rattle.fumen_pages.specs.declared.encode_fault.EncodeFault.{EncodeFault}
use Rattle.fumen_pages.specs.declared.encode_fault.EncodeFault.TheVariants as fault
use Rattle.fumen_pages.specs.Lists.{most_pages}
use Rattle.fumen_text.specs.Texts.{empty_page}
use Rattle.fumen_text.specs.Written.{HasTypes, is_short, list_encode_fault, page_encode_fault, pages_encode_fault}
use Rattle.report.specs.Forms.{KeysOf}
use Rattle.report.specs.FumenLine.{grey_cells, grey_row, grey_rows, keys_comment, left_after, placement_pages, placing_page, sequence_pages}
use Rattle.report.proofs.PageFields.{Shows, blank_rows, cleared_rows, field_row, field_rows, length-field_rows, row_tests, shows_marked}

-- ---- rows of ten

-- rows that show those of a field have ten cells each
rows_ten : (F : Field) (n : ℕ) (rows : List (List ℕ)) → map row_tests rows ≡ field_rows F n → AllByRecursion (λ row. length row ≡ 10) rows
unfolding field_rows
rows_ten F n [] same = tt
rows_ten F zero (row ∷ rows) same = absurd cc
rows_ten F (suc n) (row ∷ rows) same =
    let first : row_tests row ≡ field_row F n = cc in
    let rest : map row_tests rows ≡ field_rows F n = cc in
    (sym (length-map row (λ cell. not (cell == 0))) ∙ ap length first, rows_ten F n rows rest)

length-flat_rows : (rows : List (List ℕ)) → AllByRecursion (λ row. length row ≡ 10) rows → length (flat rows) ≡ 10 * length rows
length-flat_rows [] each = refl
length-flat_rows (row ∷ rows) each = search (rules, length-append, flat, length-flat_rows rows each.1)

-- rows of ten that stand in one list are its first rows
rows_again : (count : ℕ) (rows : List (List ℕ)) (rest : List ℕ) → AllByRecursion (λ row. length row ≡ 10) rows → length rows ≡ count → rows_in count (flat rows ++ rest) ≡ rows
unfolding rows_in
rows_again zero [] rest each len = refl
rows_again (suc count) [] rest each len = absurd cc
rows_again zero (row ∷ rows) rest each len = absurd cc
rows_again (suc count) (row ∷ rows) rest each len =
    let parts = append_assoc row (flat rows) rest in
    let first : take 10 (row ++ flat rows ++ rest) ≡ row = ap (λ (xs : List ℕ). take 10 xs) parts ∙ take_at row (flat rows ++ rest) 10 each.0 in
    let others : drop 10 (row ++ flat rows ++ rest) ≡ flat rows ++ rest = ap (λ (xs : List ℕ). drop 10 xs) parts ∙ drop_at row (flat rows ++ rest) 10 each.0 in
    let fewer : length rows ≡ count = omega arith in
    rw (first, others) (ap (λ (xs : List (List ℕ)). row ∷ xs) (rows_again count rows rest each.1 fewer))

-- ---- the first page

grey_test : (b : Bool) → not (cond b 8 0 == 0) ≡ b
grey_test b = search rules

grey_tests : (F : Field) (y : ℕ) → row_tests (grey_row F y) ≡ field_row F y
grey_tests F y = ap (λ (f : ℕ → Bool). map f columns) (fun_ext (λ x. grey_test (F x y)))

grey_shows : (F : Field) (n : ℕ) (rest : List ℕ) → (map row_tests (rows_in n (grey_rows F n ++ rest)) ≡ field_rows F n) × (length (grey_rows F n) ≡ 10 * n)
unfolding grey_rows rows_in field_rows
grey_shows F zero rest = (refl, refl)
grey_shows F (suc n) rest =
    search (rules, append_assoc, take_at, drop_at, grey_tests, rows_in, length-append, grey_shows F n rest)

pub first_shows : (F : Field) → Shows (grey_cells F) F
unfolding grey_cells
first_shows F =
    let rows = grey_shows F 23 empty_row in
    record { size = length-append (grey_rows F 23) empty_row ∙ ap (λ n. n + 10) rows.1; rows = rows.0; garbage = drop_at (grey_rows F 23) empty_row 230 rows.1 }

grey_colours : (F : Field) (y : ℕ) → All IsColour (grey_row F y)
grey_colours F y = search rules

rows_colours : (F : Field) (n : ℕ) → All IsColour (grey_rows F n)
unfolding grey_rows
rows_colours F zero = All-nil IsColour
rows_colours F (suc n) = All-append IsColour (grey_row F n) (grey_rows F n) (grey_colours F n) (rows_colours F n)

pub first_cells : (F : Field) → AreCells V115 (grey_cells F)
unfolding grey_cells grey_rows
first_cells F = search (rules, first_shows, All-append, rows_colours, All-replicate)

-- ---- a page with a placement

in_rows-same : (cell : Cell) → in_rows V115 cell ≡ in_well cell
in_rows-same cell = search rules

pub inside_rows : (q : Placement) → is_inside_of q ≡ true → is_inside_in V115 q ≡ true
inside_rows q inside = ap (λ (test : Cell → Bool). list_all test (cells_of q)) (fun_ext in_rows-same) ∙ inside

pub placing_sound : (cells : List ℕ) (colour : Bool) (q : Placement) (word : Option (List Key)) → AreCells V115 cells → is_inside_of q ≡ true → IsSound V115 (placing_page cells colour q word)
placing_sound cells colour q word are inside = search (rules, inside_rows)

code_some : (piece : Piece) → not (piece_code piece == 0) ≡ true
code_some piece = search rules

-- the page leaves cells that show what is left of the field
pub shows_next : (F : Field) (cells : List ℕ) (colour : Bool) (q : Placement) (word : Option (List Key)) → Shows cells F → AreCells V115 cells → is_inside_of q ≡ true
    → Shows (next V115 (placing_page cells colour q word)) (locked F q)
unfolding next locked operation_filled rows_of cells_of_rows
shows_next F cells colour q word shows are inside =
    let filled = marked q (piece_code q.piece) cells in
    let marks = shows_marked F q (piece_code q.piece) cells (code_some q.piece) inside shows in
    let rows = without_full (rows_in 23 filled) in
    let tests : map row_tests rows ≡ field_rows (without_full_rows (together F q) 23) 23 = cleared_rows (together F q) (rows_in 23 filled) marks.rows in
    let ten = rows_ten (without_full_rows (together F q) 23) 23 rows tests in
    let count : length rows ≡ 23 = sym (length-map rows row_tests) ∙ ap length tests ∙ length-field_rows (without_full_rows (together F q) 23) 23 in
    let len : length (flat rows) ≡ 230 = length-flat_rows rows ten ∙ omega arith in
    record {
      size = (next_cells_sound V115 (placing_page cells colour q word) (placing_sound cells colour q word are inside)).size;
      rows = ap (map row_tests) (rows_again 23 rows (drop 230 filled) ten count) ∙ tests;
      garbage = drop_at (flat rows) (drop 230 filled) 230 len ∙ marks.garbage;
    }

-- ---- it can be written

escaped_key : (key : Key) → escaped_unit (key_letter key) ≡ key_letter key ∷ []
unfolding stays
escaped_key key = search rules

escaped_keys : (word : List Key) → escaped (word_letters word) ≡ word_letters word
unfolding escaped stays
escaped_keys [] = refl
escaped_keys (key ∷ word) = λ i. escaped_key key i ++ escaped_keys word i

letter_fits : (key : Key) → key_letter key < 2 ^ 16
letter_fits key = search rules

comment_units : (word : Option (List Key)) → HasUnits (keys_comment word)
comment_units None = λ units is. absurd cc
comment_units (Some word) = λ units is.
    let same : word_letters word ≡ units = cc in
    let Fit : ℕ → Type 0 = λ unit. unit < 2 ^ 16 in
    subst (All Fit) same
    (All-append Fit (map key_letter word) (72 ∷ []) (All-map Fit key_letter word (λ i d below. letter_fits (get_or word i d))) (All-cons Fit 72 [] (omega arith) (All-nil Fit)))

-- the keys of a placement are few enough for a comment
pub record AreShort (keys : KeysOf) : Type 0 where
  pub few : (F : Field) (q : Placement) (word : List Key) → keys F q ≡ Some word → length word ≤ 920

comment_short : (word : Option (List Key)) → ((keys : List Key) → word ≡ Some keys → length keys ≤ 920) → is_short (keys_comment word) ≡ true
comment_short None few = refl
comment_short (Some word) few = grind (arith, common_steps, escaped_keys, length-append, le-leb)

four_pass : (a b c d : Bool) (f g h k : EncodeFault) → a ≡ true → b ≡ true → c ≡ true → d ≡ true
    → cond (not a) (Some f) (cond (not b) (Some g) (cond (not c) (Some h) (cond (not d) (Some k) None))) ≡ None
four_pass a b c d f g h k one two three four = rw (one, two, three, four) refl

no_page_fault : (number : ℕ) (cells : List ℕ) (colour : Bool) (q : Placement) (word : Option (List Key)) → AreCells V115 cells → is_inside_of q ≡ true
    → ((keys : List Key) → word ≡ Some keys → length keys ≤ 920) → page_encode_fault V115 number (placing_page cells colour q word) ≡ None
unfolding page_encode_fault
no_page_fault number cells colour q word are inside few =
    four_pass _ _ _ _ (fault.BadCell number) (fault.RowTooHigh number) (fault.PieceOutside number) (fault.CommentTooLong number) (list_all-from_AllPass (λ cell. leb cell 8) cells (λ i d below. le-leb (get_or cells i d) 8 (are.colours i d below))) refl (inside_rows q inside) (comment_short word few)

-- ---- the pages of a line

-- placements that lie in the well, and after which the field is empty
unfoldable pub EndsEmpty : Field → List Placement → Type 0
EndsEmpty F [] = (x y : ℕ) → F x y ≡ false
EndsEmpty F (q ∷ s) = (is_inside_of q ≡ true) × EndsEmpty (locked F q) s

cells_none : (row : List ℕ) (k : ℕ) → map (λ cell. not (cell == 0)) row ≡ replicate k false → row ≡ replicate k 0
cells_none [] zero same = refl
cells_none [] (suc k) same = absurd cc
cells_none (cell ∷ row) zero same = absurd cc
cells_none (cell ∷ row) (suc k) same =
    let first : not (cell == 0) ≡ false = cc in
    let rest : map (λ cell. not (cell == 0)) row ≡ replicate k false = cc in
    let none : cell ≡ 0 = eqb-true cell 0 (not-false (cell == 0) first) in
    λ i. none i ∷ cells_none row k rest i

rows_none : (rows : List (List ℕ)) (k : ℕ) → map row_tests rows ≡ replicate k (replicate 10 false) → rows ≡ replicate k empty_row
rows_none [] zero same = refl
rows_none [] (suc k) same = absurd cc
rows_none (row ∷ rows) zero same = absurd cc
rows_none (row ∷ rows) (suc k) same =
    let first : row_tests row ≡ replicate 10 false = cc in
    let rest : map row_tests rows ≡ replicate k (replicate 10 false) = cc in
    λ i. cells_none row 10 first i ∷ rows_none rows k rest i

-- cells that show an empty field
shows_none : (F : Field) (cells : List ℕ) → Shows cells F → ((x y : ℕ) → F x y ≡ false) → cells ≡ empty_page
unfolding field_rows
shows_none F cells shows none =
    let rows : rows_in 23 cells ≡ replicate 23 empty_row = rows_none (rows_in 23 cells) 23 (shows.rows ∙ blank_rows F 23 0 (λ x y _. none x y) ∙ append-nil _) in
    sym (flat-rows_in 23 cells) ∙ (λ i. flat (rows i) ++ shows.garbage i)

pub record AreGoodPages (number : ℕ) (cells : List ℕ) (pages : List Page) : Type 0 where
  pub none : pages_encode_fault V115 number pages ≡ None
  pub types : AllByRecursion HasTypes pages
  pub left : left_after cells pages ≡ empty_page

good_pages : (keys : KeysOf) → AreShort keys → (s : List Placement) (F : Field) (cells : List ℕ) (colour : Bool) (number : ℕ) → EndsEmpty F s → Shows cells F → AreCells V115 cells
    → AreGoodPages number cells (placement_pages keys cells colour F s)
unfolding EndsEmpty placement_pages pages_encode_fault
good_pages keys short [] F cells colour number ends shows are = record { none = refl; types = tt; left = shows_none F cells shows ends }
good_pages keys short (q ∷ s) F cells colour number ends shows are =
    let page = placing_page cells colour q (keys F q) in
    let rest = good_pages keys short s (locked F q) (next V115 page) false (number + 1) ends.1 (shows_next F cells colour q (keys F q) shows are ends.0) (next_cells_sound V115 page (placing_sound cells colour q (keys F q) are ends.0)) in
    record {
      none = ap (λ o. option_or o (pages_encode_fault V115 (number + 1) (placement_pages keys (next V115 page) false (locked F q) s))) (no_page_fault number cells colour q (keys F q) are ends.0 (short.few F q)) ∙ rest.none;
      types = (record { size = are.size; units = comment_units (keys F q) }, rest.types);
      left = rest.left;
    }

pub length-pages : (keys : KeysOf) (s : List Placement) (F : Field) (cells : List ℕ) (colour : Bool) → length (placement_pages keys cells colour F s) ≡ length s
unfolding placement_pages
length-pages keys [] F cells colour = refl
length-pages keys (q ∷ s) F cells colour = ap suc (length-pages keys s (locked F q) (next V115 (placing_page cells colour q (keys F q))) false)

-- the pages of a line have no fault, and the last one leaves no cell
pub line_pages : (keys : KeysOf) → AreShort keys → (F : Field) (s : List Placement) → EndsEmpty F s → AreGoodPages 1 (grey_cells F) (sequence_pages keys F s)
line_pages keys short F s ends = good_pages keys short s F (grey_cells F) true 1 ends (first_shows F) (first_cells F)

pub line_fault : (keys : KeysOf) → AreShort keys → (F : Field) (s : List Placement) → EndsEmpty F s → length s ≤ most_pages → list_encode_fault V115 (sequence_pages keys F s) ≡ None
line_fault keys short F s ends few = search (rules, length-pages, le-ltb, line_pages)
