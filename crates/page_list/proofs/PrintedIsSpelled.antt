-- Lines that are printed spell their pages.
use Rattle.std.proofs.Common.{◌≡◌, ℕ, zero, suc, ◌+◌, ◌-◌, ◌*◌, ◌≤◌, true, ◌==◌, List, [], ◌∷◌, ◌++◌, length, length-drop, length-take-le, take, drop, map, replicate, take-append-drop, Option, Some, None, All, refl, ap, sym, subst, ◌∙◌, inl, inr, append_assoc, eqb-true, ne_eqb, arith, rules}
use Rattle.std.specs.Option.{ForSome}
use Rattle.std.specs.List.{flat_map, join_with_byte, prefix_len, list_all}
use Rattle.std.proofs.lemmas.Bool.{agree_below_at, cases_Bool, and_parts}
use Rattle.std.proofs.lemmas.List.{take-map, drop-map, take_all, length-map, replicate-append-replicate}
use Rattle.std.proofs.lemmas.List.Concat.{flat_map-append}
use Rattle.std.proofs.lemmas.List.Elements.{All-nil, All-cons, All-head, All-tail, All-append, All-take, All-drop}
use Rattle.std.proofs.lemmas.List.Sums.{prefix_len-le-length}
use Rattle.fumen_digits.specs.declared.dialect.Dialect.{Dialect}
use Rattle.srs.specs.declared.placement.Placement.{Placement}
use Rattle.srs.specs.Cells.{pivot_of}
use Rattle.fumen_comment.specs.Escape.{HasUnits}
use Rattle.fumen_comment.proofs.CallerLemmas.{escaped_marks, unescaped-escaped}
use Rattle.fumen_pages.specs.declared.page.Page.{Page}
use Rattle.fumen_pages.specs.Action.{is_inside_in}
use Rattle.fumen_pages.specs.Cells.{IsColour}
use Rattle.fumen_pages.specs.Next.{rows_in}
use Rattle.fumen_pages.specs.Sound.{IsSound}
use Rattle.fumen_pages.proofs.CallerLemmas.{pivot_inside_in, page_row_count-most, flat, length-rows_in, flat-rows_in}
use Rattle.fumen_pages.specs.Letters.{colour_letter, letters_of, is_blank, shown_rows, garbage_row}
use Rattle.fumen_pages.specs.Lists.{most_pages}
use Rattle.page_list.specs.Divided.{Four}
use Rattle.page_list.specs.PrintedLine.{garbage_form, rows_form, operation_form, flags_form, comment_form, page_form}
use Rattle.page_list.specs.LineSpelling.{IsPageRow, SpellsGarbage, left_out, written, SpellsLineCells, SpellsLineOperation, SpellsLineComment, SpellsPage, IsFirstLine, newline, SpellsFirst, none, more, SpellsPages}
use Rattle.page_list.proofs.Marks.{HasMarks, marked_field, cells_marks, operation_marks, flags_marks, comment_marks}

-- ---- rows

rows_in-letters : (count : ℕ) (cells : List ℕ) → rows_in count (letters_of cells) ≡ map letters_of (rows_in count cells)
unfolding rows_in
rows_in-letters zero cells = refl
rows_in-letters (suc count) cells = search (rules, (take-map colour_letter 10 cells), (drop-map colour_letter 10 cells), (rows_in-letters count (drop 10 cells)))

are_rows : (count : ℕ) (cells : List ℕ) → 10 * count ≤ length cells → All IsColour cells → All IsPageRow (rows_in count cells)
unfolding rows_in
are_rows zero cells room small = All-nil IsPageRow
are_rows (suc count) cells room small =
    All-cons IsPageRow (take 10 cells) (rows_in count (drop 10 cells)) (record { size = length-take-le 10 cells (omega (arith, room)); colours = All-take IsColour 10 cells small })
    (are_rows count (drop 10 cells) (omega (arith, room, length-drop 10 cells)) (All-drop IsColour 10 cells small))

no_colour : (colour : ℕ) → colour ≤ 8 → (colour_letter colour == 95) ≡ (colour == 0)
unfolding colour_letter
no_colour colour small = agree_below_at (λ k. colour_letter k == 95) (λ k. k == 0) 9 colour refl (omega arith)

-- a row of `_` alone is empty
blank_row : (row : List ℕ) → All IsColour row → is_blank (letters_of row) ≡ true → row ≡ replicate (length row) 0
unfolding is_blank
blank_row [] small blank = refl
blank_row (colour ∷ row) small blank =
    search (rules, (and_parts (colour_letter colour == 95) (list_all (λ letter. letter == 95) (letters_of row)) blank), (eqb-true colour 0), (no_colour colour (All-head IsColour colour row small)), (blank_row row (All-tail IsColour colour row small)))

ten_zeros : (row : List ℕ) → IsPageRow row → is_blank (letters_of row) ≡ true → row ≡ replicate 10 0
ten_zeros row is blank = blank_row row is.colours blank ∙ ap (λ n. replicate n 0) is.size

-- the blank rows at the top are empty
abbrev blank_count : List (List ℕ) → ℕ
blank_count rows = prefix_len is_blank (map letters_of rows)

one_blank : (row : List ℕ) (rows : List (List ℕ)) (count next : ℕ) → next ≡ suc count → row ≡ replicate 10 0 → flat (take count rows) ≡ replicate (10 * count) 0 → flat (take next (row ∷ rows)) ≡ replicate (10 * next) 0
one_blank row rows count next is zeros rest =
    let size : 10 + 10 * count ≡ 10 * suc count = omega arith in
    subst (λ k. flat (take k (row ∷ rows)) ≡ replicate (10 * k) 0) (sym is)
    (ap (λ (l : List ℕ). l ++ flat (take count rows)) zeros ∙ ap (λ (l : List ℕ). replicate 10 0 ++ l) rest ∙ replicate-append-replicate 10 (10 * count) 0 ∙ ap (λ n. replicate n 0) size)

blank_front : (rows : List (List ℕ)) → All IsPageRow rows → flat (take (blank_count rows) rows) ≡ replicate (10 * blank_count rows) 0
blank_front [] each = refl
blank_front (row ∷ rows) each =
    search (rules, cases_Bool, one_blank, ten_zeros, All-head, All-tail, blank_front rows (All-tail IsPageRow row rows each))

-- ---- the cells field

garbage_spelled : (garbage : List ℕ) → IsPageRow garbage → SpellsGarbage (garbage_form (letters_of garbage)) garbage
garbage_spelled garbage is = elim (cases_Bool (is_blank (letters_of garbage))) [
  | inl blank ↦ rw blank (subst (SpellsGarbage []) (sym (ten_zeros garbage is blank)) left_out)
  | inr shown ↦ rw shown (written is)
]

shown_letters : (cells : List ℕ) → shown_rows (letters_of cells) ≡ map letters_of (drop (blank_count (rows_in 23 cells)) (rows_in 23 cells))
unfolding shown_rows
shown_letters cells = ap (λ (rows : List (List ℕ)). drop (prefix_len is_blank rows) rows) (rows_in-letters 23 cells) ∙ drop-map letters_of (blank_count (rows_in 23 cells)) (rows_in 23 cells)

garbage_letters : (cells : List ℕ) → length (drop 230 cells) ≡ 10 → garbage_row (letters_of cells) ≡ letters_of (drop 230 cells)
garbage_letters cells size =
    ap (take 10) (drop-map colour_letter 230 cells) ∙ take_all 10 (letters_of (drop 230 cells)) (omega (arith, size, length-map (drop 230 cells) colour_letter))

-- blank rows, and those from the first that isn't down
parted : (rows : List (List ℕ)) (garbage : List ℕ) → All IsPageRow rows → length rows ≡ 23
    → flat rows ++ garbage ≡ replicate (230 - 10 * length (drop (blank_count rows) rows)) 0 ++ (flat (drop (blank_count rows) rows) ++ garbage)
parted rows garbage each size =
    search (rules, (prefix_len-le-length is_blank (map letters_of rows)), (length-map rows letters_of), (length-drop (blank_count rows) rows), (take-append-drop (blank_count rows) rows), (flat_map-append (λ row. row) (take (blank_count rows) rows) (drop (blank_count rows) rows)), (blank_front rows each), (append_assoc (replicate (230 - 10 * length (drop (blank_count rows) rows)) 0) (flat (drop (blank_count rows) rows)) garbage))

printed_cells : (cells : List ℕ) → length cells ≡ 240 → All IsColour cells → SpellsLineCells (rows_form (letters_of cells)) cells
unfolding rows_form
printed_cells cells size small =
    let rows = rows_in 23 cells in
    let each = are_rows 23 cells (omega (arith, size)) small in
    let count = length-rows_in 23 cells in
    let garbage = drop 230 cells in
    let ten : length garbage ≡ 10 = omega (arith, size, length-drop 230 cells) in
    let row : IsPageRow garbage = record { size = ten; colours = All-drop IsColour 230 cells small } in
    record {
      rows = drop (blank_count rows) rows;
      most = omega (arith, count, length-drop (blank_count rows) rows);
      each = All-drop IsPageRow (blank_count rows) rows each;
      garbage_text = garbage_form (letters_of garbage);
      garbage = garbage;
      garbage_spelled = garbage_spelled garbage row;
      spelled = ap (λ (l : List (List ℕ)). join_with_byte 47 l ++ 124 ∷ garbage_form (garbage_row (letters_of cells))) (shown_letters cells)
          ∙ ap (λ (l : List ℕ). join_with_byte 47 (map letters_of (drop (blank_count rows) rows)) ++ 124 ∷ garbage_form l) (garbage_letters cells ten);
      cells_are = sym (flat-rows_in 23 cells) ∙ parted rows garbage each count;
    }

-- ---- the other fields

printed_operation : (dialect : Dialect) (operation : Option Placement) → ForSome operation (λ placement. is_inside_in dialect placement ≡ true) → SpellsLineOperation (operation_form operation) operation
printed_operation dialect None inside = refl
printed_operation dialect (Some p) inside = search (rules, (pivot_inside_in dialect p.piece p.rotation (pivot_of p) (inside p refl)), (page_row_count-most dialect))

printed_comment : (comment : Option (List ℕ)) → HasUnits comment → SpellsLineComment (comment_form comment) comment
printed_comment comment fits = search (rules, escaped_marks, unescaped-escaped)

-- ---- lines

-- the line of a page without its newline
abbrev line_of : Page → List ℕ
line_of page = rows_form (letters_of page.cells) ++ 32 ∷ (operation_form page.operation ++ 32 ∷ (flags_form page ++ 32 ∷ comment_form page.comment))

framed : (a b c d : List ℕ) → a ++ 32 ∷ b ++ 32 ∷ c ++ 32 ∷ d ++ 10 ∷ [] ≡ (a ++ 32 ∷ (b ++ 32 ∷ (c ++ 32 ∷ d))) ++ 10 ∷ []
framed a b c d = ap (λ (l : List ℕ). l ++ 10 ∷ []) (append_assoc (a ++ 32 ∷ b) (32 ∷ c) (32 ∷ d) ∙ append_assoc a (32 ∷ b) (32 ∷ (c ++ 32 ∷ d)))

page_line : (page : Page) → page_form page ≡ line_of page ++ 10 ∷ []
unfolding page_form
page_line page = framed (rows_form (letters_of page.cells)) (operation_form page.operation) (flags_form page) (comment_form page.comment)

-- no byte of a line is below the blank
abbrev IsAbove : ℕ → Type 0
IsAbove byte = 32 ≤ byte

above : (text : List ℕ) → HasMarks text → All IsAbove text
above text has = λ k d within. let mark = has.marks k d within in omega (arith, mark.0)

all_above : (four : Four) → HasMarks four.cells → HasMarks four.operation → HasMarks four.flags → HasMarks four.comment
    → All IsAbove (four.cells ++ 32 ∷ (four.operation ++ 32 ∷ (four.flags ++ 32 ∷ four.comment)))
all_above four a b c d =
    All-append IsAbove four.cells _ (above four.cells a) (behind _ (All-append IsAbove four.operation _ (above four.operation b) (behind _ (All-append IsAbove four.flags _ (above four.flags c) (behind _ (above four.comment d))))))
  where
    behind : (text : List ℕ) → All IsAbove text → All IsAbove (32 ∷ text)
    behind text all = All-cons IsAbove 32 text (omega arith) all

-- so it has no newline, and no `\r` at its end
ended : (line rest : List ℕ) → All IsAbove line → IsFirstLine (line ++ 10 ∷ rest) line rest
ended line rest all = newline (λ k d within. let high = all k d within in ne_eqb _ 10 (λ e. omega (arith, e, high))) (λ front is. no_return front (subst (All IsAbove) is all))
  where
    no_return : (front : List ℕ) → All IsAbove (front ++ 13 ∷ []) → ⊥
    no_return [] high = let low = All-head IsAbove 13 [] high in omega (arith, low)
    no_return (byte ∷ front) high = no_return front (All-tail IsAbove byte (front ++ 13 ∷ []) high)

-- a line that spells a page, and is above the blank
record IsPrinted (line : List ℕ) (page : Page) : Type 0 where
  spells : SpellsPage line page
  high : All IsAbove line

printed_line : (dialect : Dialect) (page : Page) → IsSound dialect page → HasUnits page.comment → IsPrinted (line_of page) page
printed_line dialect page sound fits =
    let cells = printed_cells page.cells sound.cells.size sound.cells.colours in
    let operation = printed_operation dialect page.operation sound.inside in
    let comment = printed_comment page.comment fits in
    let four : Four = record { cells = rows_form (letters_of page.cells); operation = operation_form page.operation; flags = flags_form page; comment = comment_form page.comment } in
    let a = cells_marks four.cells page.cells cells in
    let b = operation_marks four.operation page.operation operation in
    let c = flags_marks four.flags page refl in
    let d = comment_marks four.comment page.comment comment in
    record {
      spells = record {
        four = four;
        divided = record { divided = refl; cells = marked_field four.cells a; operation = marked_field four.operation b; flags = marked_field four.flags c; comment = marked_field four.comment d };
        cells = cells;
        operation = operation;
        flags = refl;
        comment = comment;
      };
      high = all_above four a b c d;
    }

printed_lines : (dialect : Dialect) (pages : List Page) → All (IsSound dialect) pages → All (λ page. HasUnits page.comment) pages → SpellsFirst (flat_map page_form pages) pages []
printed_lines dialect [] sound fits = none
printed_lines dialect (page ∷ pages) sound fits =
    let one = printed_line dialect page (All-head (IsSound dialect) page pages sound) (All-head (λ p. HasUnits p.comment) page pages fits) in
    let others = printed_lines dialect pages (All-tail (IsSound dialect) page pages sound) (All-tail (λ p. HasUnits p.comment) page pages fits) in
    let rest = flat_map page_form pages in
    let text : page_form page ++ rest ≡ line_of page ++ 10 ∷ rest = ap (λ (l : List ℕ). l ++ rest) (page_line page) ∙ append_assoc (line_of page) (10 ∷ []) rest in
    subst (λ t. SpellsFirst t (page ∷ pages) []) (sym text) (more (ended (line_of page) rest one.high) one.spells others)

pub printed_pages : (dialect : Dialect) (pages : List Page) → length pages ≤ most_pages → All (IsSound dialect) pages → All (λ page. HasUnits page.comment) pages → SpellsPages (flat_map page_form pages) pages
printed_pages dialect pages most sound fits = record { most = most; spelled = printed_lines dialect pages sound fits }
