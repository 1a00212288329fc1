-- What a page leaves are cells of the dialect again, and its rows come one after the other.
use Rattle.std.proofs.Common.{◌≡◌, ℕ, zero, suc, ◌*◌, ◌≤◌, Bool, true, false, List, [], ◌∷◌, ◌++◌, length, set, take, drop, All, Option, Some, None, refl, sym, ap, subst, ◌∙◌, arith, rules}
use Rattle.std.specs.Prelude.{fold, replicate, reverse}
use Rattle.std.specs.List.{list_all}
use Rattle.std.specs.Option.{ForSome}
use Rattle.std.proofs.lemmas.Bool.{and_parts}
use Rattle.std.proofs.lemmas.List.{take-append-drop, drop-drop, length-set, take-set-le, length-append, length-drop, length-take-le, length-map, length-reverse, length-replicate, get_or-reverse}
use Rattle.std.proofs.lemmas.List.Elements.{All-nil, All-cons, All-head, All-tail, All-replicate, All-get_or, All-from_get_or, All-append, All-set, All-weaker, All-take, All-drop, All-map, All-filter}
use Rattle.fumen_digits.specs.declared.dialect.Dialect.{Dialect}
use Rattle.fumen_digits.specs.declared.dialect.Dialect.TheVariants.{V115}
use Rattle.fumen_digits.specs.Dialect.{page_row_count}
use Rattle.srs.specs.declared.piece.Piece.{Piece}
use Rattle.srs.specs.declared.placement.Placement.{Placement}
use Rattle.srs.specs.Piece.{piece_code}
use Rattle.srs.specs.Cells.{Cell, cells_of}
use Rattle.fumen_pages.specs.declared.page.Page.{Page}
use Rattle.fumen_pages.specs.Cells.{IsColour, missing_count, shown, AreCells, place_of}
use Rattle.fumen_pages.specs.Action.{in_rows, is_inside_in}
use Rattle.fumen_pages.specs.Sound.{IsSound}
use Rattle.fumen_pages.specs.Next.{Rows, rows_in, rows_of, cells_of_rows, empty_row, marked, operation_filled, without_full, cleared, risen, mirrored_rows, next}
use Rattle.fumen_pages.proofs.InsideLaws.{in_rows-place}
use Rattle.fumen_pages.proofs.RowLaws.{flat, flat-rows_in, length-rows_in}
use Rattle.fumen_pages.proofs.NextLaws.{rows_end, kept_least}

-- ---- rows of colours

abbrev pub IsGoodRow : List ℕ → Type 0
IsGoodRow row = (length row ≡ 10) × All IsColour row

-- the rows of a page of the dialect
pub record AreRowsOf (dialect : Dialect) (rows : Rows) : Type 0 where
  pub field : All IsGoodRow rows.field
  pub count : length rows.field ≡ page_row_count dialect
  pub last : IsGoodRow rows.garbage

empty_row-good : IsGoodRow empty_row
empty_row-good = (refl, All-replicate IsColour 10 0 (omega arith))

rows_in-good : (count : ℕ) (cells : List ℕ) → 10 * count ≤ length cells → All IsColour cells → All IsGoodRow (rows_in count cells)
unfolding rows_in
rows_in-good zero cells room colours = All-nil IsGoodRow
rows_in-good (suc count) cells room colours =
    let left = length-drop 10 cells in
    All-cons IsGoodRow (take 10 cells) (rows_in count (drop 10 cells)) (length-take-le 10 cells (omega arith), All-take IsColour 10 cells colours) (rows_in-good count (drop 10 cells) (omega arith) (All-drop IsColour 10 cells colours))

rows_of-good : (dialect : Dialect) (cells : List ℕ) → length cells ≡ 240 → All IsColour cells → AreRowsOf dialect (rows_of dialect cells)
unfolding rows_of
rows_of-good dialect cells size colours =
    let end = rows_end dialect in
    let left = length-drop (missing_count dialect) cells in
    record {
      field = rows_in-good (page_row_count dialect) (shown dialect cells) (omega arith) (All-drop IsColour (missing_count dialect) cells colours);
      count = length-rows_in (page_row_count dialect) (shown dialect cells);
      last = (length-drop 230 cells ∙ omega arith, All-drop IsColour 230 cells colours);
    }

without_full-good : (rows : List (List ℕ)) → All IsGoodRow rows → All IsGoodRow (without_full rows)
unfolding without_full
without_full-good rows good = search (rules, All-append, All-replicate, empty_row-good, All-filter)

length-without_full : (rows : List (List ℕ)) → length (without_full rows) ≡ length rows
unfolding without_full
length-without_full rows = search (rules, length-append, length-replicate, kept_least)

cleared-good : (dialect : Dialect) (rows : Rows) → AreRowsOf dialect rows → AreRowsOf dialect (cleared rows)
cleared-good dialect rows good = search (rules, without_full-good, length-without_full)

row_count-positive : (dialect : Dialect) → 1 ≤ page_row_count dialect
row_count-positive dialect = search rules

risen-good : (dialect : Dialect) (rise : Bool) (rows : Rows) → AreRowsOf dialect rows → AreRowsOf dialect (risen rise rows)
risen-good dialect false rows good = good
risen-good dialect true rows good =
    let left = length-drop 1 rows.field in
    let all = length-append (drop 1 rows.field) (rows.garbage ∷ []) in
    let some = row_count-positive dialect in
    let same = good.count in
    record {
      field = All-append IsGoodRow (drop 1 rows.field) (rows.garbage ∷ []) (All-drop IsGoodRow 1 rows.field good.field) (All-cons IsGoodRow rows.garbage [] good.last (All-nil IsGoodRow));
      count = omega arith;
      last = empty_row-good;
    }

reverse-good : (row : List ℕ) → IsGoodRow row → IsGoodRow (reverse row)
reverse-good row good = search (rules, length-reverse, All-from_get_or, get_or-reverse, All-get_or)

mirrored-good : (dialect : Dialect) (mirror : Bool) (rows : Rows) → AreRowsOf dialect rows → AreRowsOf dialect (mirrored_rows mirror rows)
mirrored-good dialect false rows good = good
mirrored-good dialect true rows good = search (rules, All-map, All-weaker, reverse-good, length-map)

-- ---- rows as cells

flat-good : (rows : List (List ℕ)) → All IsGoodRow rows → (length (flat rows) ≡ 10 * length rows) × All IsColour (flat rows)
flat-good [] good = (refl, All-nil IsColour)
flat-good (row ∷ rows) good =
    let one = All-head IsGoodRow row rows good in
    let rest = flat-good rows (All-tail IsGoodRow row rows good) in
    let ten = one.0 in
    let others = rest.0 in
    (length-append row (flat rows) ∙ omega arith, All-append IsColour row (flat rows) one.1 rest.1)

pub cells_of_rows-sound : (dialect : Dialect) (rows : Rows) → AreRowsOf dialect rows → AreCells dialect (cells_of_rows dialect rows)
unfolding cells_of_rows
cells_of_rows-sound dialect rows good = search (
  rules,
  length-replicate,
  (flat-good rows.field good.field),
  (length-append (flat rows.field) rows.garbage),
  (rows_end dialect),
  (All-append IsColour),
  (All-append IsColour (flat rows.field) rows.garbage),
  (All-replicate IsColour),
)

-- cells are those of their rows
pub cells_of_rows-rows_of : (dialect : Dialect) (cells : List ℕ) → length cells ≡ 240 → take (missing_count dialect) cells ≡ replicate (missing_count dialect) 0 → cells ≡ cells_of_rows dialect (rows_of dialect cells)
unfolding cells_of_rows rows_of
cells_of_rows-rows_of dialect cells size empty =
    let m = missing_count dialect in
    let count = page_row_count dialect in
    let there : drop (10 * count) (drop m cells) ≡ drop 230 cells = drop-drop (10 * count) m cells ∙ ap (λ (n : ℕ). drop n cells) (rows_end dialect) in
    let rows : flat (rows_in count (drop m cells)) ++ drop 230 cells ≡ drop m cells = ap (λ (xs : List ℕ). flat (rows_in count (drop m cells)) ++ xs) (sym there) ∙ flat-rows_in count (drop m cells) in
    sym (take-append-drop m cells) ∙ (ap (λ (xs : List ℕ). xs ++ drop m cells) empty ∙ ap (λ (xs : List ℕ). replicate m 0 ++ xs) (sym rows))

-- ---- filled cells

piece_code-colour : (piece : Piece) → piece_code piece ≤ 8
piece_code-colour piece = search rules

-- the cells of the operation lie among those of the dialect
place_of-shown : (dialect : Dialect) (cell : Cell) → in_rows dialect cell ≡ true → missing_count dialect ≤ place_of V115 cell
place_of-shown dialect cell inside = search (rules, in_rows-place, rows_end)

-- some cells are painted
record ArePainted (dialect : Dialect) (before after : List ℕ) : Type 0 where
  size : length after ≡ length before
  colours : All IsColour before → All IsColour after
  missing : take (missing_count dialect) after ≡ take (missing_count dialect) before

painted_cells : (dialect : Dialect) (colour : ℕ) (before : List ℕ) (cells : List Cell) → colour ≤ 8 → list_all (in_rows dialect) cells ≡ true → ArePainted dialect before (fold (λ was cell. set was (place_of V115 cell) colour) before cells)
painted_cells dialect colour before [] good inside = record { size = refl; colours = λ all. all; missing = refl }
painted_cells dialect colour before (cell ∷ cells) good inside =
    let parts = and_parts (in_rows dialect cell) (list_all (in_rows dialect) cells) inside in
    let rest = painted_cells dialect colour (set before (place_of V115 cell) colour) cells good parts.1 in
    record {
      size = rest.size ∙ length-set before (place_of V115 cell) colour;
      colours = λ all. rest.colours (All-set IsColour before (place_of V115 cell) colour good all);
      missing = rest.missing ∙ take-set-le (missing_count dialect) before (place_of V115 cell) colour (place_of-shown dialect cell parts.0);
    }

marked-painted : (dialect : Dialect) (p : Placement) (colour : ℕ) (before : List ℕ) → colour ≤ 8 → is_inside_in dialect p ≡ true → ArePainted dialect before (marked p colour before)
unfolding marked
marked-painted dialect p colour before good inside = painted_cells dialect colour before (cells_of p) good inside

filled-painted : (dialect : Dialect) (operation : Option Placement) (before : List ℕ) → ForSome operation (λ p. is_inside_in dialect p ≡ true) → ArePainted dialect before (operation_filled operation before)
unfolding operation_filled
filled-painted dialect None before inside = record { size = refl; colours = λ all. all; missing = refl }
filled-painted dialect (Some p) before inside = search (rules, marked-painted, piece_code-colour)

-- ---- what a page leaves

next_kept : (dialect : Dialect) (page : Page) → page.lock ≡ false → next dialect page ≡ page.cells
unfolding next
next_kept dialect page open_page = search rules

next_locked : (dialect : Dialect) (page : Page) → page.lock ≡ true → next dialect page ≡ cells_of_rows dialect (mirrored_rows page.mirror (risen page.rise (cleared (rows_of dialect (operation_filled page.operation page.cells)))))
unfolding next
next_locked dialect page locked = search rules

-- a sound page leaves cells of the dialect
pub next_cells_sound : (dialect : Dialect) (page : Page) → IsSound dialect page → AreCells dialect (next dialect page)
next_cells_sound dialect page sound = go page.lock refl
  where
    go : (lock : Bool) → page.lock ≡ lock → AreCells dialect (next dialect page)
    go false e = subst (λ (cells : List ℕ). AreCells dialect cells) (sym (next_kept dialect page e)) sound.cells
    go true e =
        let painted = filled-painted dialect page.operation page.cells sound.inside in
        let rows = rows_of-good dialect (operation_filled page.operation page.cells) (painted.size ∙ sound.cells.size) (painted.colours sound.cells.colours) in
        let left = mirrored-good dialect page.mirror _ (risen-good dialect page.rise _ (cleared-good dialect _ rows)) in
        subst (λ (cells : List ℕ). AreCells dialect cells) (sym (next_locked dialect page e)) (cells_of_rows-sound dialect _ left)

-- a page that doesn't lock leaves its cells
pub left_open : (dialect : Dialect) (page : Page) → page.lock ≡ false → page.cells ≡ next dialect page
left_open dialect page e = sym (next_kept dialect page e)

-- one that locks: the cells are filled, and then the rows are cleared, risen and mirrored
pub left_locked : (dialect : Dialect) (page : Page) (a b c d : List ℕ) → IsSound dialect page → page.lock ≡ true → length d ≡ 240 → a ≡ operation_filled page.operation page.cells
    → rows_of dialect b ≡ cleared (rows_of dialect a) → take (missing_count dialect) b ≡ take (missing_count dialect) a
    → rows_of dialect c ≡ risen page.rise (rows_of dialect b) → take (missing_count dialect) c ≡ take (missing_count dialect) b
    → rows_of dialect d ≡ mirrored_rows page.mirror (rows_of dialect c) → take (missing_count dialect) d ≡ take (missing_count dialect) c → d ≡ next dialect page
left_locked dialect page a b c d sound locked size fill clear clear_kept rise rise_kept mirror mirror_kept =
    search (rules, filled-painted, cells_of_rows-rows_of, next_locked)
