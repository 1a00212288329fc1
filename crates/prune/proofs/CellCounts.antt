-- How often a cell stands in a list of cells.
use Rattle.std.proofs.Common.{◌≡◌, ℕ, ◌+◌, ◌≤◌, Bool, true, false, cond, List, [], ◌∷◌, ◌++◌, map, refl, sym, ap, ◌∙◌, inl, inr, arith, rules}
use Rattle.std.specs.Prelude.{count_by}
use Rattle.std.specs.List.{list_all}
use Rattle.std.specs.Cmp.{both_ways}
use Rattle.std.proofs.lemmas.Bool.{cases_Bool, cond-true, cond-false, and_parts, or_right, or_parts, false≢true}
use Rattle.std.proofs.lemmas.List.Sums.{sum_by-cons, sum_by-append}
use Rattle.srs.specs.Cells.{Cell}
use Rattle.srs.specs.SameCells.{cell_eq, is_among}
use Rattle.srs.proofs.CallerLemmas.{cell_eq-decides, has_cell-head, list_all-from_is_among}

-- one more element that passes, or that does not
pub count-yes : {X : Type 0} (p : X → Bool) (x : X) (xs : List X) → p x ≡ true → count_by p (x ∷ xs) ≡ count_by p xs + 1
count-yes p x xs passes = omega (arith, sum_by-cons (λ x. cond (p x) 1 0) x xs, cond-true {A = ℕ} (p x) 1 0 passes)

pub count-no : {X : Type 0} (p : X → Bool) (x : X) (xs : List X) → p x ≡ false → count_by p (x ∷ xs) ≡ count_by p xs
count-no p x xs fails = omega (arith, sum_by-cons (λ x. cond (p x) 1 0) x xs, cond-false {A = ℕ} (p x) 1 0 fails)

pub count-append : {X : Type 0} (p : X → Bool) (xs ys : List X) → count_by p (xs ++ ys) ≡ count_by p xs + count_by p ys
count-append p xs ys = sum_by-append (λ x. cond (p x) 1 0) xs ys

-- two tests that agree where a third one passes count the same of a list whose elements pass it
pub count-agree : {X : Type 0} (p q ok : X → Bool) (xs : List X) → list_all ok xs ≡ true → ((x : X) → ok x ≡ true → p x ≡ q x) → count_by p xs ≡ count_by q xs
count-agree p q ok [] all agree = refl
count-agree p q ok (x ∷ xs) all agree =
    search (rules, (and_parts (ok x) (list_all ok xs) all), (sum_by-cons (λ x. cond (p x) 1 0) x xs), (sum_by-cons (λ x. cond (q x) 1 0) x xs), (count-agree p q ok xs (and_parts (ok x) (list_all ok xs) all).1 agree))

-- none of them passes
pub count-none : {X : Type 0} (p ok : X → Bool) (xs : List X) → list_all ok xs ≡ true → ((x : X) → ok x ≡ true → p x ≡ false) → count_by p xs ≡ 0
count-none p ok [] all none = refl
count-none p ok (x ∷ xs) all none = search (rules, and_parts, count-no, (count-none p ok xs))

pub count-map : {X Y : Type 0} (p : Y → Bool) (f : X → Y) (xs : List X) → count_by p (map f xs) ≡ count_by (λ x. p (f x)) xs
count-map p f [] = refl
count-map p f (x ∷ xs) = search (rules, sum_by-cons, (count-map p f xs))

-- how often the cell stands in the list
unfoldable pub count_in : List Cell → Cell → ℕ
count_in cells cell = count_by (λ c. cell_eq c cell) cells

pub count_in-append : (xs ys : List Cell) (cell : Cell) → count_in (xs ++ ys) cell ≡ count_in xs cell + count_in ys cell
unfolding count_in
count_in-append xs ys cell = count-append (λ c. cell_eq c cell) xs ys

-- it stands in the list at least once exactly where the list has it
pub count_in-some : (cells : List Cell) (cell : Cell) → is_among cells cell ≡ true → 1 ≤ count_in cells cell
unfolding count_in is_among
count_in-some [] cell has = absurd (false≢true has)
count_in-some (c ∷ cs) cell has =
    search (rules, (cases_Bool (cell_eq c cell)), (count-yes (λ c. cell_eq c cell) c cs), (count-no (λ c. cell_eq c cell) c cs), (count_in-some cs cell))

pub count_in-none : (cells : List Cell) (cell : Cell) → is_among cells cell ≡ false → count_in cells cell ≡ 0
unfolding count_in is_among
count_in-none [] cell none = refl
count_in-none (c ∷ cs) cell none = search (rules, or_parts, count-no, (count_in-none cs cell))

-- a cell that a changed list has comes from a cell of the list
pub record Source (f : Cell → Cell) (cells : List Cell) (cell : Cell) : Type 0 where
  pub from : Cell
  pub listed : is_among cells from ≡ true
  pub sent : f from ≡ cell

pub source_of : (f : Cell → Cell) (cells : List Cell) (cell : Cell) → is_among (map f cells) cell ≡ true → Source f cells cell
unfolding is_among
source_of f [] cell has = absurd (false≢true has)
source_of f (c ∷ cs) cell has = search (rules, (cases_Bool (cell_eq (f c) cell)), (has_cell-head c cs), (cell_eq-decides (f c) cell), or_right, (source_of f cs cell))

-- and the changed list has what a cell of the list becomes
pub has_cell-map : (f : Cell → Cell) (cells : List Cell) (cell : Cell) → is_among cells cell ≡ true → is_among (map f cells) (f cell) ≡ true
unfolding is_among
has_cell-map f [] cell has = absurd (false≢true has)
has_cell-map f (c ∷ cs) cell has = search (rules, cases_Bool, cell_eq-decides, or_right, (has_cell-map f cs cell))

-- where cells of a list that stand in it once become different ones, none stands twice in the changed list
pub once_sent : (f : Cell → Cell) (cells : List Cell) → ((c : Cell) → is_among cells c ≡ true → count_in cells c ≤ 1) →
    ((c d : Cell) → is_among cells c ≡ true → is_among cells d ≡ true → f c ≡ f d → c ≡ d) → (cell : Cell) → count_in (map f cells) cell ≤ 1
unfolding count_in
once_sent f cells once apart cell = elim (cases_Bool (is_among (map f cells) cell)) [
  | inl has ↦
      let source = source_of f cells cell has in
      let same : count_by (λ c. cell_eq (f c) cell) cells ≡ count_by (λ c. cell_eq c source.from) cells = count-agree (λ c. cell_eq (f c) cell) (λ c. cell_eq c source.from) (is_among cells) cells (listed cells) (λ c listed. agree source c listed) in
      omega (arith, count-map (λ c. cell_eq c cell) f cells, same, once source.from source.listed)
  | inr none ↦ omega (arith, count_in-none (map f cells) cell none)
]
  where
    listed : (cells : List Cell) → list_all (is_among cells) cells ≡ true
    listed cells = list_all-from_is_among (is_among cells) cells (λ c has. has)

    agree : (source : Source f cells cell) (c : Cell) → is_among cells c ≡ true → cell_eq (f c) cell ≡ cell_eq c source.from
    agree source c has = both_ways (cell_eq (f c) cell) (cell_eq c source.from)
        (λ e. (cell_eq-decides c source.from).1 (apart c source.from has source.listed ((cell_eq-decides (f c) cell).0 e ∙ sym source.sent)))
        (λ e. (cell_eq-decides (f c) cell).1 (ap f ((cell_eq-decides c source.from).0 e) ∙ source.sent))
