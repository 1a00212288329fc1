-- Cells as rows of ten: one row after the other, all in one list, and rows that are rewritten one by one.
use Rattle.std.proofs.Common.{◌≡◌, ℕ, zero, suc, ◌+◌, ◌*◌, ◌≤◌, List, [], ◌∷◌, ◌++◌, length, take, drop, refl, sym, ap, ◌∙◌, append_assoc, arith, rules}
use Rattle.std.specs.List.{flat_map, AllByRecursion}
use Rattle.std.proofs.lemmas.List.{append-nil, take-append-drop, drop-drop, drop_at, take_at, length-append, length-drop, length-take-le}
use Rattle.std.proofs.lemmas.List.Concat.{flat_map-append}
use Rattle.std.proofs.lemmas.Grind.{common_steps}
use Rattle.fumen_pages.specs.Next.{rows_in}

-- rows in one list
abbrev pub flat : List (List ℕ) → List ℕ
flat rows = flat_map (λ row. row) rows

abbrev pub IsRow : List ℕ → Type 0
IsRow row = length row ≡ 10

abbrev pub AreRows : List (List ℕ) → Type 0
AreRows rows = AllByRecursion IsRow rows

pub AreRows-append : (rows others : List (List ℕ)) → AreRows rows → AreRows others → AreRows (rows ++ others)
AreRows-append rows others one other = search (rules, common_steps)

pub length-flat : (rows : List (List ℕ)) → AreRows rows → length (flat rows) ≡ 10 * length rows
length-flat [] each = refl
length-flat (row ∷ rows) each = search (rules, length-append, length-flat rows each.1)

pub length-rows_in : (count : ℕ) (cells : List ℕ) → length (rows_in count cells) ≡ count
unfolding rows_in
length-rows_in zero cells = refl
length-rows_in (suc count) cells = ap suc (length-rows_in count (drop 10 cells))

pub AreRows-rows_in : (count : ℕ) (cells : List ℕ) → 10 * count ≤ length cells → AreRows (rows_in count cells)
unfolding rows_in
AreRows-rows_in zero cells room = tt
AreRows-rows_in (suc count) cells room =
    search (rules, length-drop, length-take-le, (AreRows-rows_in count (drop 10 cells)))

-- one more row
pub rows_in_more : (count : ℕ) (cells : List ℕ) → rows_in (suc count) cells ≡ rows_in count cells ++ take 10 (drop (10 * count) cells) ∷ []
unfolding rows_in
rows_in_more zero cells = refl
rows_in_more (suc count) cells = search (rules, (drop-drop (10 * count) 10 cells), (rows_in_more count (drop 10 cells)))

-- rows that stand in one list are its first rows
pub rows_in-flat : (count : ℕ) (rows : List (List ℕ)) (rest : List ℕ) → AreRows rows → length rows ≡ count → rows_in count (flat rows ++ rest) ≡ rows
unfolding rows_in
rows_in-flat zero [] rest each len = refl
rows_in-flat (suc count) [] rest each len = absurd cc
rows_in-flat zero (row ∷ rows) rest each len = absurd cc
rows_in-flat (suc count) (row ∷ rows) rest each len =
    let parts = append_assoc row (flat rows) rest in
    let first : take 10 (row ++ flat rows ++ rest) ≡ row = ap (λ (xs : List ℕ). take 10 xs) parts ∙ take_at row (flat rows ++ rest) 10 each.0 in
    let others : drop 10 (row ++ flat rows ++ rest) ≡ flat rows ++ rest = ap (λ (xs : List ℕ). drop 10 xs) parts ∙ drop_at row (flat rows ++ rest) 10 each.0 in
    let fewer : length rows ≡ count = omega arith in
    rw (first, others) (ap (λ (xs : List (List ℕ)). row ∷ xs) (rows_in-flat count rows rest each.1 fewer))

pub flat-rows_in : (count : ℕ) (cells : List ℕ) → flat (rows_in count cells) ++ drop (10 * count) cells ≡ cells
unfolding rows_in
flat-rows_in zero cells = refl
flat-rows_in (suc count) cells =
    let there : 10 + 10 * count ≡ 10 * suc count = omega arith in
    let rest : flat (rows_in count (drop 10 cells)) ++ drop (10 * suc count) cells ≡ drop 10 cells = ap (λ (n : ℕ). flat (rows_in count (drop 10 cells)) ++ drop n cells) (sym there) ∙ (ap (λ (xs : List ℕ). flat (rows_in count (drop 10 cells)) ++ xs) (sym (drop-drop (10 * count) 10 cells)) ∙ flat-rows_in count (drop 10 cells)) in
    append_assoc (take 10 cells) (flat (rows_in count (drop 10 cells))) (drop (10 * suc count) cells) ∙ (ap (λ (xs : List ℕ). take 10 cells ++ xs) rest ∙ take-append-drop 10 cells)

-- the first rows are those of the cells in them
pub rows_in-front : (count : ℕ) (cells rest : List ℕ) → 10 * count ≤ length cells → rows_in count (cells ++ rest) ≡ rows_in count cells
rows_in-front count cells rest room =
    search (rules, append_assoc, (flat-rows_in count cells), (rows_in-flat count), (AreRows-rows_in count cells room), (length-rows_in count cells))

-- ---- rows that are rewritten one by one

-- the first rows are rewritten, and the others stand as before; m cells before them stay
pub record IsDone (old page : List ℕ) (m i : ℕ) (done : List (List ℕ)) : Type 0 where
  pub parts : page ≡ take m old ++ (flat done ++ drop (10 * i) (drop m old))
  pub rows : AreRows done
  pub count : length done ≡ i

pub done_starts : (old : List ℕ) (m : ℕ) → IsDone old old m 0 []
done_starts old m = record { parts = sym (take-append-drop m old); rows = tt; count = refl }

-- what stands before the next row
abbrev front_of : List ℕ → ℕ → List (List ℕ) → List ℕ
front_of old m done = take m old ++ flat done

length-front : (old page : List ℕ) (m i : ℕ) (done : List (List ℕ)) → m ≤ length old → IsDone old page m i done → length (front_of old m done) ≡ m + 10 * i
length-front old page m i done room s = search (rules, length-append, length-take-le, length-flat)

-- no cell comes or goes
pub length-done : (old page : List ℕ) (m i : ℕ) (done : List (List ℕ)) → m ≤ length old → 10 * i ≤ length (drop m old) → IsDone old page m i done → length page ≡ length old
length-done old page m i done room more s = search (rules, length-append, length-take-le, length-flat, length-drop)

-- the cells from the next row on
from_row : (old page : List ℕ) (m i start : ℕ) (done : List (List ℕ)) → m ≤ length old → start ≡ m + 10 * i → IsDone old page m i done → (take start page ≡ front_of old m done) × (drop start page ≡ drop (10 * i) (drop m old))
from_row old page m i start done room at s =
    let whole : page ≡ front_of old m done ++ drop (10 * i) (drop m old) = s.parts ∙ sym (append_assoc (take m old) (flat done) (drop (10 * i) (drop m old))) in
    let len : length (front_of old m done) ≡ start = length-front old page m i done room s ∙ sym at in
    (ap (λ (xs : List ℕ). take start xs) whole ∙ take_at (front_of old m done) (drop (10 * i) (drop m old)) start len, ap (λ (xs : List ℕ). drop start xs) whole ∙ drop_at (front_of old m done) (drop (10 * i) (drop m old)) start len)

-- a row of the cells as they were
abbrev pub old_row : List ℕ → ℕ → ℕ → List ℕ
old_row old m i = take 10 (drop (10 * i) (drop m old))

pub row_there : (old page : List ℕ) (m i start : ℕ) (done : List (List ℕ)) → m ≤ length old → start ≡ m + 10 * i → IsDone old page m i done → take 10 (drop start page) ≡ old_row old m i
row_there old page m i start done room at s = ap (λ (xs : List ℕ). take 10 xs) (from_row old page m i start done room at s).1

-- the next row is written
pub done_more : (old page written : List ℕ) (m i start : ℕ) (done : List (List ℕ)) (row : List ℕ) → m ≤ length old → start ≡ m + 10 * i → IsRow row → written ≡ take start page ++ (row ++ drop 10 (drop start page)) → IsDone old page m i done
    → IsDone old written m (i + 1) (done ++ row ∷ [])
done_more old page written m i start done row room at ten is s =
    let s-is = from_row old page m i start done room at s in
    let next : 10 * i + 10 ≡ 10 * (i + 1) = omega arith in
    let rest : drop 10 (drop start page) ≡ drop (10 * (i + 1)) (drop m old) = ap (λ (xs : List ℕ). drop 10 xs) s-is.1 ∙ (drop-drop 10 (10 * i) (drop m old) ∙ ap (λ (n : ℕ). drop n (drop m old)) next) in
    let behind = drop (10 * (i + 1)) (drop m old) in
    let both : flat (done ++ row ∷ []) ≡ flat done ++ row = flat_map-append (λ (r : List ℕ). r) done (row ∷ []) ∙ ap (λ (xs : List ℕ). flat done ++ xs) (append-nil row) in
    let joined : front_of old m done ++ (row ++ behind) ≡ take m old ++ (flat (done ++ row ∷ []) ++ behind) = append_assoc (take m old) (flat done) (row ++ behind) ∙ (ap (λ (xs : List ℕ). take m old ++ xs) (sym (append_assoc (flat done) row behind)) ∙ ap (λ (xs : List ℕ). take m old ++ (xs ++ behind)) (sym both)) in
    record {
      parts = is ∙ (ap (λ (xs : List ℕ). xs ++ (row ++ drop 10 (drop start page))) s-is.0 ∙ (ap (λ (xs : List ℕ). front_of old m done ++ (row ++ xs)) rest ∙ joined));
      rows = AreRows-append done (row ∷ []) s.rows (ten, tt);
      count = length-append done (row ∷ []) ∙ ap (λ (n : ℕ). n + 1) s.count;
    }

-- the next row goes, and the rewritten ones move down under another one
pub done_lowered : (old page written low : List ℕ) (m i : ℕ) (done : List (List ℕ)) (row : List ℕ) → m ≤ length old → 10 * (i + 1) ≤ length (drop m old) → IsRow row
    → low ≡ row ++ take (10 * i) (drop m page) → written ≡ take m page ++ (low ++ drop (10 * (i + 1)) (drop m page)) → IsDone old page m i done → IsDone old written m (i + 1) (row ∷ done)
done_lowered old page written low m i done row room more ten low_is is s =
    let len = length-take-le m old room in
    let rest = drop (10 * i) (drop m old) in
    let first : take m page ≡ take m old = ap (λ (xs : List ℕ). take m xs) s.parts ∙ take_at (take m old) (flat done ++ rest) m len in
    let others : drop m page ≡ flat done ++ rest = ap (λ (xs : List ℕ). drop m xs) s.parts ∙ drop_at (take m old) (flat done ++ rest) m len in
    let size : length (flat done) ≡ 10 * i = length-flat done s.rows ∙ ap (λ (n : ℕ). 10 * n) s.count in
    let kept : take (10 * i) (drop m page) ≡ flat done = ap (λ (xs : List ℕ). take (10 * i) xs) others ∙ take_at (flat done) rest (10 * i) size in
    let next : 10 * i + 10 ≡ 10 * (i + 1) = omega arith in
    let same : drop (10 * i) (drop m page) ≡ rest = ap (λ (xs : List ℕ). drop (10 * i) xs) others ∙ drop_at (flat done) rest (10 * i) size in
    let behind : drop (10 * (i + 1)) (drop m page) ≡ drop (10 * (i + 1)) (drop m old) = ap (λ (n : ℕ). drop n (drop m page)) (sym next) ∙ (sym (drop-drop 10 (10 * i) (drop m page)) ∙ (ap (λ (xs : List ℕ). drop 10 xs) same ∙ (drop-drop 10 (10 * i) (drop m old) ∙ ap (λ (n : ℕ). drop n (drop m old)) next))) in
    record {
      parts = is ∙ (ap (λ (xs : List ℕ). xs ++ (low ++ drop (10 * (i + 1)) (drop m page))) first ∙ (ap (λ (xs : List ℕ). take m old ++ (low ++ xs)) behind ∙ ap (λ (xs : List ℕ). take m old ++ (xs ++ drop (10 * (i + 1)) (drop m old))) (low_is ∙ ap (λ (xs : List ℕ). row ++ xs) kept)));
      rows = (ten, s.rows);
      count = ap suc s.count ∙ omega arith;
    }
