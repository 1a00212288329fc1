-- The rows that are left from a row on, and those that are shown.
use Rattle.std.proofs.Common.{◌≡◌, ℕ, suc, ◌+◌, ◌-◌, ◌*◌, ◌<◌, ◌≤◌, true, false, List, [], ◌∷◌, take, drop, refl, add-one, ap, sym, ◌∙◌, arith, rules}
use Rattle.std.specs.List.{prefix_len}
use Rattle.std.proofs.lemmas.List.{drop-drop}
use Rattle.fumen_pages.specs.Next.{rows_in}
use Rattle.fumen_pages.specs.Letters.{is_blank, shown_rows}

-- the rows from this one on, counted from the top
unfoldable pub rows_left : List ℕ → ℕ → List (List ℕ)
rows_left letters index = rows_in (23 - index) (drop (10 * index) letters)

abbrev pub row_at : List ℕ → ℕ → List ℕ
row_at letters index = take 10 (drop (10 * index) letters)

pub rows_left-start : (letters : List ℕ) → rows_in 23 letters ≡ rows_left letters 0
unfolding rows_left
rows_left-start letters = refl

pub rows_left-end : (letters : List ℕ) → rows_left letters 23 ≡ []
unfolding rows_left rows_in
rows_left-end letters = refl

-- the first of these rows, and those behind it
split : (letters : List ℕ) (n count : ℕ) → n ≡ suc count → rows_in n letters ≡ take 10 letters ∷ rows_in count (drop 10 letters)
unfolding rows_in
split letters n count is = rw (is) refl

-- the first of the rows that are left, and those behind it
pub rows_left-more : (letters : List ℕ) (index : ℕ) → index < 23 → rows_left letters index ≡ row_at letters index ∷ rows_left letters (index + 1)
unfolding rows_left
rows_left-more letters index within =
    search (rules, (drop-drop 10 (10 * index) letters), (split (drop (10 * index) letters) (23 - index) (23 - (index + 1))))

-- the rows that are left after a number of them are dropped
pub rows_left-drop : (letters : List ℕ) (index : ℕ) → index ≤ 23 → drop index (rows_in 23 letters) ≡ rows_left letters index
rows_left-drop letters index within = search (rules, rows_left-start, add-one, drop-drop, rows_left-more)

-- one more row at the top is blank
pub first-goes_on : (letters : List ℕ) (index : ℕ) → index < 23 → is_blank (row_at letters index) ≡ true
    → index + prefix_len is_blank (rows_left letters index) ≡ index + 1 + prefix_len is_blank (rows_left letters (index + 1))
first-goes_on letters index within blank = rw (rows_left-more letters index within, blank) (omega arith)

-- a row isn't blank
pub first-found : (letters : List ℕ) (index : ℕ) → index < 23 → is_blank (row_at letters index) ≡ false
    → index + prefix_len is_blank (rows_left letters index) ≡ index
first-found letters index within shown = rw (rows_left-more letters index within, shown) (omega arith)

-- the rows that are shown are those that are left from the first of them on
pub shown-left : (letters : List ℕ) (first : ℕ) → first ≡ prefix_len is_blank (rows_in 23 letters) → first ≤ 23 → shown_rows letters ≡ rows_left letters first
unfolding shown_rows
shown-left letters first is within = ap (λ n. drop n (rows_in 23 letters)) (sym is) ∙ rows_left-drop letters first within
