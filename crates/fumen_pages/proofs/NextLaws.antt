-- What a page leaves: filled cells, rows without the full ones, risen and mirrored rows, and that they are cells again.
use Rattle.std.proofs.Common.{◌≡◌, ℕ, suc, ◌+◌, ◌-◌, ◌*◌, ◌<◌, ◌≤◌, Bool, true, false, not, cond, List, [], ◌∷◌, ◌++◌, length, get_or, set, take, drop, map, refl, sym, ap, subst, ◌∙◌, append_assoc, arith, rules}
use Rattle.std.specs.Prelude.{filter, fold, reverse}
use Rattle.std.specs.List.{between}
use Rattle.std.proofs.lemmas.List.Elements.{filter-append}
use Rattle.std.proofs.lemmas.List.Filters.{length-filter_both}
use Rattle.std.proofs.lemmas.List.{take-take, append-nil, take-append-drop, drop-append-le, drop-drop, drop_at, take_at, drop_all, take_all, length-append, length-drop, length-take-le, length-reverse, map-append}
use Rattle.std.proofs.lemmas.Grind.{common_steps}
use borrow.Rule.Slice.PartMut.{put_mid, mid_of}
use Rattle.fumen_digits.specs.declared.dialect.Dialect.{Dialect}
use Rattle.fumen_digits.specs.declared.dialect.Dialect.TheVariants.{V115}
use Rattle.fumen_digits.specs.Dialect.{page_row_count}
use Rattle.srs.specs.declared.placement.Placement.{Placement}
use Rattle.srs.specs.Cells.{Cell, cells_of}
use Rattle.srs.proofs.CallerLemmas.{cells_length}
use Rattle.fumen_pages.specs.Cells.{missing_count, place_of}
use Rattle.fumen_pages.specs.Next.{Rows, rows_in, rows_of, empty_row, marked, is_full_page_row, without_full, cleared, risen, mirrored_rows}
use Rattle.fumen_pages.proofs.RowLaws.{flat, IsRow, length-flat, length-rows_in, rows_in_more, rows_in-flat, rows_in-front, IsDone, length-done, done_starts, old_row, row_there, done_more, done_lowered}

-- ---- the cells of the operation

fold_four : (f : List ℕ → Cell → List ℕ) (a : List ℕ) (cells : List Cell) (d : Cell) → length cells ≡ 4 → f (f (f (f a (get_or cells 0 d)) (get_or cells 1 d)) (get_or cells 2 d)) (get_or cells 3 d) ≡ fold f a cells
fold_four f a cells d four = search (rules, common_steps)

pub marked_four : (p : Placement) (cells : List Cell) (value : ℕ) (d : Cell) (a b c e f : List ℕ) → cells ≡ cells_of p
    → b ≡ set a (place_of V115 (get_or cells 0 d)) value → c ≡ set b (place_of V115 (get_or cells 1 d)) value → e ≡ set c (place_of V115 (get_or cells 2 d)) value → f ≡ set e (place_of V115 (get_or cells 3 d)) value
    → f ≡ marked p value a
unfolding marked
marked_four p cells value d a b c e f there one two three four = search (rules, fold_four, cells_length)

-- ---- rows that move

pub lowered : (rows turned first : List ℕ) → 10 ≤ length rows → turned ≡ drop (length rows - 10) rows ++ take (length rows - 10) rows → first ≡ empty_row → first ++ drop 10 turned ≡ empty_row ++ take (length rows - 10) rows
lowered rows turned first room is none =
    let n = length rows - 10 in
    let all = length-drop n rows in
    let ten : length (drop n rows) ≡ 10 = omega arith in
    ap (λ (xs : List ℕ). xs ++ drop 10 turned) none ∙ ap (λ (xs : List ℕ). empty_row ++ xs) (ap (λ (xs : List ℕ). drop 10 xs) is ∙ drop_at (drop n rows) (take n rows) 10 ten)

pub lifted : (rows turned last : List ℕ) → 10 ≤ length rows → turned ≡ drop 10 rows ++ take 10 rows → last ≡ empty_row
    → put_mid (length turned - 10) (length turned - (length turned - 10)) turned last ≡ drop 10 rows ++ empty_row
lifted rows turned last room is none =
    search (rules, length-append, length-drop, length-take-le, take_at, drop_all, append-nil)

-- ---- the rows of a page

pub rows_end : (dialect : Dialect) → missing_count dialect + 10 * page_row_count dialect ≡ 230
rows_end dialect = search rules

same_rows : (a b : List (List ℕ)) (c d : List ℕ) → a ≡ b → c ≡ d → ◌≡◌ {A = Rows} (record { field = a; garbage = c }) (record { field = b; garbage = d })
same_rows a b c d e f = λ i. record { field = e i; garbage = f i }

-- all rows are rewritten
pub rows_done : (dialect : Dialect) (old page : List ℕ) (i : ℕ) (done : List (List ℕ)) → length old ≡ 240 → i ≡ page_row_count dialect → IsDone old page (missing_count dialect) i done
    → (rows_of dialect page ≡ record { field = done; garbage = (rows_of dialect old).garbage }) × (take (missing_count dialect) page ≡ take (missing_count dialect) old)
unfolding rows_of
rows_done dialect old page i done size all s =
    let m = missing_count dialect in
    let end = rows_end dialect in
    let len : length (take m old) ≡ m = length-take-le m old (omega arith) in
    let rest = drop (10 * i) (drop m old) in
    let others : drop m page ≡ flat done ++ rest = ap (λ (xs : List ℕ). drop m xs) s.parts ∙ drop_at (take m old) (flat done ++ rest) m len in
    let whole : length (flat done) ≡ 10 * i = length-flat done s.rows ∙ ap (λ (n : ℕ). 10 * n) s.count in
    let field : rows_in (page_row_count dialect) (drop m page) ≡ done = ap (λ (xs : List ℕ). rows_in (page_row_count dialect) xs) others ∙ rows_in-flat (page_row_count dialect) done rest s.rows (s.count ∙ all) in
    let at : m + 10 * i ≡ 230 = omega arith in
    let behind : drop 230 page ≡ rest = ap (λ (n : ℕ). drop n page) (sym at) ∙ (sym (drop-drop (10 * i) m page) ∙ (ap (λ (xs : List ℕ). drop (10 * i) xs) others ∙ drop_at (flat done) rest (10 * i) whole)) in
    let same : rest ≡ drop 230 old = drop-drop (10 * i) m old ∙ ap (λ (n : ℕ). drop n old) at in
    (same_rows (rows_in (page_row_count dialect) (drop m page)) done (drop 230 page) (drop 230 old) field (behind ∙ same), ap (λ (xs : List ℕ). take m xs) s.parts ∙ take_at (take m old) (flat done ++ rest) m len)

-- ---- rise

first_row : (n : ℕ) (xs : List ℕ) → take 10 xs ∷ rows_in n (drop 10 xs) ≡ rows_in (suc n) xs
unfolding rows_in
first_row n xs = refl

row_count-least : (dialect : Dialect) → 1 ≤ page_row_count dialect
row_count-least dialect = search rules

pub risen_rows : (dialect : Dialect) (old page : List ℕ) → length old ≡ 240 → page ≡ take (missing_count dialect) old ++ (drop 10 (drop (missing_count dialect) old) ++ empty_row)
    → (rows_of dialect page ≡ risen true (rows_of dialect old)) × (take (missing_count dialect) page ≡ take (missing_count dialect) old)
unfolding rows_of
risen_rows dialect old page size is =
    let m = missing_count dialect in
    let count = page_row_count dialect in
    let end = rows_end dialect in
    let cells = drop m old in
    let len : length (take m old) ≡ m = length-take-le m old (omega arith) in
    let most : length cells ≡ 10 * count + 10 = length-drop m old ∙ omega arith in
    let lifted_cells = drop 10 cells in
    let room : length lifted_cells ≡ 10 * count = length-drop 10 cells ∙ omega arith in
    let others : drop m page ≡ lifted_cells ++ empty_row = ap (λ (xs : List ℕ). drop m xs) is ∙ drop_at (take m old) (lifted_cells ++ empty_row) m len in
    let all : take 10 cells ∷ rows_in count lifted_cells ≡ rows_in count cells ++ take 10 (drop (10 * count) cells) ∷ [] = first_row count cells ∙ rows_in_more count cells in
    let some : 1 ≤ length (rows_in count cells) = subst (λ (n : ℕ). 1 ≤ n) (sym (length-rows_in count cells)) (row_count-least dialect) in
    let without : rows_in count lifted_cells ≡ drop 1 (rows_in count cells) ++ take 10 (drop (10 * count) cells) ∷ [] = ap (λ (xs : List (List ℕ)). drop 1 xs) all ∙ drop-append-le 1 (rows_in count cells) (take 10 (drop (10 * count) cells) ∷ []) some in
    let there : drop (10 * count) cells ≡ drop 230 old = drop-drop (10 * count) m old ∙ ap (λ (n : ℕ). drop n old) end in
    let ten : length (drop 230 old) ≡ 10 = length-drop 230 old ∙ omega arith in
    let last : take 10 (drop (10 * count) cells) ≡ drop 230 old = ap (λ (xs : List ℕ). take 10 xs) there ∙ take_all 10 (drop 230 old) (omega arith) in
    let field : rows_in count (drop m page) ≡ drop 1 (rows_in count cells) ++ drop 230 old ∷ [] = ap (λ (xs : List ℕ). rows_in count xs) others ∙ (rows_in-front count lifted_cells empty_row (omega arith) ∙ (without ∙ ap (λ (xs : List ℕ). drop 1 (rows_in count cells) ++ xs ∷ []) last)) in
    let behind : drop 230 page ≡ empty_row = ap (λ (n : ℕ). drop n page) (sym end) ∙ (sym (drop-drop (10 * count) m page) ∙ (ap (λ (xs : List ℕ). drop (10 * count) xs) others ∙ drop_at lifted_cells empty_row (10 * count) room)) in
    (same_rows (rows_in count (drop m page)) (drop 1 (rows_in count cells) ++ drop 230 old ∷ []) (drop 230 page) empty_row field behind, ap (λ (xs : List ℕ). take m xs) is ∙ take_at (take m old) (lifted_cells ++ empty_row) m len)

-- the rows from the top one on are lifted
pub risen_from : (dialect : Dialect) (rise : Bool) (old lifted_rows : List ℕ) (top k : ℕ) → length old ≡ 240 → rise ≡ true → top ≡ missing_count dialect → k ≡ 240 - top → lifted_rows ≡ drop 10 (mid_of top k old) ++ empty_row
    → rows_of dialect (put_mid top k old lifted_rows) ≡ risen rise (rows_of dialect old)
risen_from dialect rise old lifted_rows top k size rises at rest is =
    search (rules, length-drop, take_all, drop_all, append-nil, risen_rows)

-- ---- mirror

-- a row of the page is among its cells
pub row_room : (dialect : Dialect) (old : List ℕ) (i : ℕ) → length old ≡ 240 → i < page_row_count dialect → (missing_count dialect ≤ length old) × (10 * (i + 1) ≤ length (drop (missing_count dialect) old))
row_room dialect old i size lt = search (rules, rows_end, length-drop)

pub old_row-length : (dialect : Dialect) (old : List ℕ) (i : ℕ) → length old ≡ 240 → i < page_row_count dialect → IsRow (old_row old (missing_count dialect) i)
old_row-length dialect old i size lt = search (rules, row_room, length-drop, length-take-le)

-- the rows so far, and one more
rows_so_far : (old : List ℕ) (m i : ℕ) → rows_in (i + 1) (drop m old) ≡ rows_in i (drop m old) ++ old_row old m i ∷ []
rows_so_far old m i = let one : i + 1 ≡ suc i = omega arith in ap (λ (n : ℕ). rows_in n (drop m old)) one ∙ rows_in_more i (drop m old)

abbrev pub mirrored_so_far : Dialect → List ℕ → ℕ → List (List ℕ)
mirrored_so_far dialect old i = map reverse (rows_in i (drop (missing_count dialect) old))

pub mirrored_more : (dialect : Dialect) (old page row : List ℕ) (i start k : ℕ) → length old ≡ 240 → i < page_row_count dialect → start ≡ missing_count dialect + 10 * i → k ≡ 10 → row ≡ reverse (mid_of start k page)
    → IsDone old page (missing_count dialect) i (mirrored_so_far dialect old i) → IsDone old (put_mid start k page row) (missing_count dialect) (i + 1) (mirrored_so_far dialect old (i + 1))
mirrored_more dialect old page row i start k size lt at ten is s =
    let m = missing_count dialect in
    let room = (row_room dialect old i size lt).0 in
    let before = old_row old m i in
    let there : mid_of start k page ≡ before = ap (λ (n : ℕ). take n (drop start page)) ten ∙ row_there old page m i start (mirrored_so_far dialect old i) room at s in
    let row_is : row ≡ reverse before = is ∙ ap (λ (xs : List ℕ). reverse xs) there in
    let rows : mirrored_so_far dialect old (i + 1) ≡ mirrored_so_far dialect old i ++ row ∷ [] = ap (λ (xs : List (List ℕ)). map reverse xs) (rows_so_far old m i) ∙ (map-append reverse (rows_in i (drop m old)) (before ∷ []) ∙ ap (λ (r : List ℕ). mirrored_so_far dialect old i ++ r ∷ []) (sym row_is)) in
    let written : put_mid start k page row ≡ take start page ++ (row ++ drop 10 (drop start page)) = ap (λ (n : ℕ). take start page ++ (row ++ drop n (drop start page))) ten in
    let width : IsRow row = ap length row_is ∙ (length-reverse before ∙ old_row-length dialect old i size lt) in
    subst (λ (xs : List (List ℕ)). IsDone old (put_mid start k page row) m (i + 1) xs) (sym rows) (done_more old page (put_mid start k page row) m i start (mirrored_so_far dialect old i) row room at width written s)

-- ---- removal

all_kept : (row : List ℕ) (rows : List (List ℕ)) → is_full_page_row row ≡ false → filter (λ r. not (is_full_page_row r)) (rows ++ row ∷ []) ≡ filter (λ r. not (is_full_page_row r)) rows ++ row ∷ []
all_kept row rows gap = filter-append (λ r. not (is_full_page_row r)) rows (row ∷ []) ∙ ap (λ (b : Bool). filter (λ r. not (is_full_page_row r)) rows ++ cond (not b) (row ∷ []) []) gap

none_kept : (row : List ℕ) (rows : List (List ℕ)) → is_full_page_row row ≡ true → filter (λ r. not (is_full_page_row r)) (rows ++ row ∷ []) ≡ filter (λ r. not (is_full_page_row r)) rows
none_kept row rows full = filter-append (λ r. not (is_full_page_row r)) rows (row ∷ []) ∙ (ap (λ (b : Bool). filter (λ r. not (is_full_page_row r)) rows ++ cond (not b) (row ∷ []) []) full ∙ append-nil (filter (λ r. not (is_full_page_row r)) rows))

pub kept_least : (rows : List (List ℕ)) → length (filter (λ r. not (is_full_page_row r)) rows) ≤ length rows
kept_least rows = search (rules, (length-filter_both (λ r. not (is_full_page_row r)) is_full_page_row))

pub without_full_kept : (row : List ℕ) (rows : List (List ℕ)) → is_full_page_row row ≡ false → without_full (rows ++ row ∷ []) ≡ without_full rows ++ row ∷ []
unfolding without_full
without_full_kept row rows gap = search (rules, length-append, all_kept, append_assoc)

pub without_full_gone : (row : List ℕ) (rows : List (List ℕ)) → is_full_page_row row ≡ true → without_full (rows ++ row ∷ []) ≡ empty_row ∷ without_full rows
unfolding without_full
without_full_gone row rows full = search (rules, length-append, kept_least, none_kept)

abbrev pub cleared_so_far : Dialect → List ℕ → ℕ → List (List ℕ)
cleared_so_far dialect old i = without_full (rows_in i (drop (missing_count dialect) old))

-- the row that is looked at
pub looked_at : (dialect : Dialect) (old page : List ℕ) (i start end : ℕ) (done : List (List ℕ)) → length old ≡ 240 → i < page_row_count dialect → start ≡ missing_count dialect + 10 * i → end ≡ start + 10 → IsDone old page (missing_count dialect) i done → between start end page ≡ old_row old (missing_count dialect) i
looked_at dialect old page i start end done size lt at ten s = search (rules, row_there, row_room)

pub cleared_kept : (dialect : Dialect) (old page : List ℕ) (i : ℕ) → length old ≡ 240 → i < page_row_count dialect → is_full_page_row (old_row old (missing_count dialect) i) ≡ false → IsDone old page (missing_count dialect) i (cleared_so_far dialect old i)
    → IsDone old page (missing_count dialect) (i + 1) (cleared_so_far dialect old (i + 1))
cleared_kept dialect old page i size lt gap s =
    let m = missing_count dialect in
    let start = m + 10 * i in
    let row = old_row old m i in
    let room = (row_room dialect old i size lt).0 in
    let there : take 10 (drop start page) ≡ row = row_there old page m i start (cleared_so_far dialect old i) room refl s in
    let whole : page ≡ take start page ++ (row ++ drop 10 (drop start page)) = sym (take-append-drop start page) ∙ ap (λ (xs : List ℕ). take start page ++ xs) (sym (take-append-drop 10 (drop start page)) ∙ ap (λ (xs : List ℕ). xs ++ drop 10 (drop start page)) there) in
    let rows : cleared_so_far dialect old (i + 1) ≡ cleared_so_far dialect old i ++ row ∷ [] = ap without_full (rows_so_far old m i) ∙ without_full_kept row (rows_in i (drop m old)) gap in
    subst (λ (xs : List (List ℕ)). IsDone old page m (i + 1) xs) (sym rows) (done_more old page page m i start (cleared_so_far dialect old i) row room refl (old_row-length dialect old i size lt) whole s)

pub cleared_gone : (dialect : Dialect) (old page low : List ℕ) (i top k : ℕ) → length old ≡ 240 → i < page_row_count dialect → top ≡ missing_count dialect → k ≡ 10 * (i + 1) → is_full_page_row (old_row old (missing_count dialect) i) ≡ true
    → low ≡ empty_row ++ take (length (mid_of top k page) - 10) (mid_of top k page) → IsDone old page (missing_count dialect) i (cleared_so_far dialect old i)
    → IsDone old (put_mid top k page low) (missing_count dialect) (i + 1) (cleared_so_far dialect old (i + 1))
cleared_gone dialect old page low i top k size lt at ten full is s =
    let m = missing_count dialect in
    let room = row_room dialect old i size lt in
    let end = rows_end dialect in
    let left = length-drop top page in
    let same = length-done old page m i (cleared_so_far dialect old i) room.0 (omega arith) s in
    let fits : k ≤ length (drop top page) = omega arith in
    let len : length (mid_of top k page) - 10 ≡ 10 * i = ap (λ (n : ℕ). n - 10) (length-take-le k (drop top page) fits) ∙ omega arith in
    let less : 10 * i ≤ k = omega arith in
    let front : take (length (mid_of top k page) - 10) (mid_of top k page) ≡ take (10 * i) (drop m page) = ap (λ (n : ℕ). take n (mid_of top k page)) len ∙ (take-take (10 * i) k (drop top page) less ∙ ap (λ (n : ℕ). take (10 * i) (drop n page)) at) in
    let low_is : low ≡ empty_row ++ take (10 * i) (drop m page) = is ∙ ap (λ (xs : List ℕ). empty_row ++ xs) front in
    let written : put_mid top k page low ≡ take m page ++ (low ++ drop (10 * (i + 1)) (drop m page)) = ap (λ (n : ℕ). put_mid n k page low) at ∙ ap (λ (n : ℕ). take m page ++ (low ++ drop n (drop m page))) ten in
    let rows : cleared_so_far dialect old (i + 1) ≡ empty_row ∷ cleared_so_far dialect old i = ap without_full (rows_so_far old m i) ∙ without_full_gone (old_row old m i) (rows_in i (drop m old)) full in
    subst (λ (xs : List (List ℕ)). IsDone old (put_mid top k page low) m (i + 1) xs) (sym rows) (done_lowered old page (put_mid top k page low) low m i (cleared_so_far dialect old i) empty_row room.0 room.1 refl low_is written s)

-- ---- at the start and at the end

pub mirrored_starts : (dialect : Dialect) (old : List ℕ) → IsDone old old (missing_count dialect) 0 (mirrored_so_far dialect old 0)
unfolding rows_in
mirrored_starts dialect old = done_starts old (missing_count dialect)

pub cleared_starts : (dialect : Dialect) (old : List ℕ) → IsDone old old (missing_count dialect) 0 (cleared_so_far dialect old 0)
unfolding rows_in without_full
cleared_starts dialect old = done_starts old (missing_count dialect)

field_is : (dialect : Dialect) (old : List ℕ) (i : ℕ) → i ≡ page_row_count dialect → rows_in i (drop (missing_count dialect) old) ≡ (rows_of dialect old).field
unfolding rows_of
field_is dialect old i all = ap (λ (n : ℕ). rows_in n (drop (missing_count dialect) old)) all

pub mirrored_all : (dialect : Dialect) (old page : List ℕ) (i : ℕ) → length old ≡ 240 → i ≡ page_row_count dialect → IsDone old page (missing_count dialect) i (mirrored_so_far dialect old i)
    → (rows_of dialect page ≡ mirrored_rows true (rows_of dialect old)) × (take (missing_count dialect) page ≡ take (missing_count dialect) old)
mirrored_all dialect old page i size all s = grind (arith, common_steps, rows_done, same_rows, field_is)

pub cleared_all : (dialect : Dialect) (old page : List ℕ) (i : ℕ) → length old ≡ 240 → i ≡ page_row_count dialect → IsDone old page (missing_count dialect) i (cleared_so_far dialect old i)
    → (rows_of dialect page ≡ cleared (rows_of dialect old)) × (take (missing_count dialect) page ≡ take (missing_count dialect) old)
cleared_all dialect old page i size all s = grind (arith, common_steps, rows_done, same_rows, field_is)
