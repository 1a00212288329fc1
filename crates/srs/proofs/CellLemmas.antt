-- Cells and sets of cells: tests that decide, and moves of whole sets.
use Rattle.std.proofs.Common.{◌≡◌, Bool, true, not, ◌&&◌, ◌||◌, Decides, ℤ, pos, ◌+ℤ◌, ◌-ℤ◌, List, [], ◌∷◌, map, refl, sym, ap, ◌∙◌, arith, rules}
use Rattle.std.specs.List.{list_all}
use Rattle.std.specs.Ordering.{int_eq}
use Rattle.std.specs.Bool.{one_answer}
use Rattle.std.specs.Cmp.{both_ways, signed_Decides}
use Rattle.std.specs.Cmp.Lexicographic.{pointwise_decides}
use Rattle.std.proofs.lemmas.Bool.{cases_Bool, and_from, or_right}
use Rattle.std.proofs.lemmas.Int.{ints}
use Rattle.srs.specs.Cells.{Cell, moved}
use Rattle.srs.specs.SameCells.{cell_eq, cells_eq, is_among, SameCells, is_same_cells}
use Rattle.srs.proofs.BooleanLemmas.{and_first, and_second}

-- the test of cells decides whether they are equal
pub cell_eq-decides : (c d : Cell) → Decides (cell_eq c d) (c ≡ d)
cell_eq-decides c d = search (rules, signed_Decides, and_first, and_second, and_from)

pub cells_eq-decides : (xs ys : List Cell) → Decides (cells_eq xs ys) (xs ≡ ys)
cells_eq-decides = pointwise_decides cell_eq-decides

-- the move from one cell to another
unfoldable pub less : Cell → Cell → Cell
less c d = (c.0 -ℤ d.0, c.1 -ℤ d.1)

pub moved-less : (c d : Cell) → moved d (less c d) ≡ c
unfolding moved less
moved-less c d =
    let x : d.0 +ℤ (c.0 -ℤ d.0) ≡ c.0 = omega (arith, ints) in
    let y : d.1 +ℤ (c.1 -ℤ d.1) ≡ c.1 = omega (arith, ints) in
    λ i. (x i, y i)

pub moved-moved : (c d e : Cell) → moved c (moved d e) ≡ moved (moved c d) e
unfolding moved
moved-moved c d e =
    let x : c.0 +ℤ (d.0 +ℤ e.0) ≡ (c.0 +ℤ d.0) +ℤ e.0 = omega (arith, ints) in
    let y : c.1 +ℤ (d.1 +ℤ e.1) ≡ (c.1 +ℤ d.1) +ℤ e.1 = omega (arith, ints) in
    λ i. (x i, y i)

pub map-moved-moved : (c d : Cell) (cells : List Cell) → map (moved c) (map (moved d) cells) ≡ map (moved (moved c d)) cells
map-moved-moved c d [] = refl
map-moved-moved c d (x ∷ xs) = λ i. moved-moved c d x i ∷ map-moved-moved c d xs i

-- a moved cell is d where the cell is as far from d
int_eq-moved : (c x d : ℤ) → int_eq (c +ℤ x) d ≡ int_eq x (d -ℤ c)
int_eq-moved c x d = search (rules, signed_Decides, one_answer)

pub is_among-moved : (c : Cell) (cells : List Cell) (d : Cell) → is_among (map (moved c) cells) d ≡ is_among cells (less d c)
unfolding is_among moved less
is_among-moved c [] d = refl
is_among-moved c (x ∷ xs) d = λ i. (int_eq-moved c.0 x.0 d.0 i && int_eq-moved c.1 x.1 d.1 i) || is_among-moved c xs d i

-- what holds of all cells of a list holds of a cell that it has
pub is_among-all : (test : Cell → Bool) (cells : List Cell) (cell : Cell) → list_all test cells ≡ true → is_among cells cell ≡ true → test cell ≡ true
unfolding is_among
is_among-all test [] cell all has = cc
is_among-all test (x ∷ xs) cell all has =
    search (rules, cases_Bool, cell_eq-decides, and_first, and_second, (is_among-all test xs cell (and_second (test x) (list_all test xs) all)))

-- a list has its own cells
pub has_cell-head : (x : Cell) (xs : List Cell) → is_among (x ∷ xs) x ≡ true
unfolding is_among
has_cell-head x xs = ap (λ b. b || is_among xs x) ((cell_eq-decides x x).1 refl)

has_cell-tail : (x : Cell) (xs : List Cell) (c : Cell) → is_among xs c ≡ true → is_among (x ∷ xs) c ≡ true
unfolding is_among
has_cell-tail x xs c has = or_right (cell_eq x c) (is_among xs c) has

-- what holds of each cell that a list has holds of all
pub list_all-from_is_among : (test : Cell → Bool) (xs : List Cell) → ((x : Cell) → is_among xs x ≡ true → test x ≡ true) → list_all test xs ≡ true
list_all-from_is_among test [] each = refl
list_all-from_is_among test (x ∷ xs) each =
    and_from (test x) (list_all test xs) (each x (has_cell-head x xs)) (list_all-from_is_among test xs (λ c has. each c (has_cell-tail x xs c has)))

-- the cells of one list are cells of another, and the other way round
pub same_cells-from : (xs ys : List Cell) → list_all (is_among ys) xs ≡ true → list_all (is_among xs) ys ≡ true → SameCells xs ys
same_cells-from xs ys there back = search (rules, both_ways, is_among-all)

-- the test of sets decides whether they are the same
pub is_same_cells-decides : (xs ys : List Cell) → Decides (is_same_cells xs ys) (SameCells xs ys)
is_same_cells-decides xs ys = search (rules, same_cells-from, and_first, and_second, and_from, list_all-from_is_among)

pub same_cells-sym : {xs ys : List Cell} → SameCells xs ys → SameCells ys xs
same_cells-sym h = record { same = λ c. sym (h.same c) }

pub same_cells-trans : {xs ys zs : List Cell} → SameCells xs ys → SameCells ys zs → SameCells xs zs
same_cells-trans h k = record { same = λ c. h.same c ∙ k.same c }

-- sets that are the same stay so where both are moved
pub same_cells-moved : (c : Cell) (xs ys : List Cell) → SameCells xs ys → SameCells (map (moved c) xs) (map (moved c) ys)
same_cells-moved c xs ys h = record { same = λ d. is_among-moved c xs d ∙ h.same (less d c) ∙ sym (is_among-moved c ys d) }

-- the move takes each cell of one list to a cell of the other
unfoldable pub fits : List Cell → List Cell → Cell → Bool
fits xs ys move = list_all (λ x. is_among ys (moved move x)) xs

pub less-moved : (c x : Cell) → less (moved c x) c ≡ x
unfolding moved less
less-moved c x =
    let a : (c.0 +ℤ x.0) -ℤ c.0 ≡ x.0 = omega (arith, ints) in
    let b : (c.1 +ℤ x.1) -ℤ c.1 ≡ x.1 = omega (arith, ints) in
    λ i. (a i, b i)

less-moved-other : (c d x : Cell) → less (moved c x) d ≡ moved (less c d) x
unfolding moved less
less-moved-other c d x =
    let a : (c.0 +ℤ x.0) -ℤ d.0 ≡ (c.0 -ℤ d.0) +ℤ x.0 = omega (arith, ints) in
    let b : (c.1 +ℤ x.1) -ℤ d.1 ≡ (c.1 -ℤ d.1) +ℤ x.1 = omega (arith, ints) in
    λ i. (a i, b i)

-- where two moved sets are the same, what lies between the two moves takes the one set into the other
pub fits-between : (xs ys : List Cell) (c d : Cell) → SameCells (map (moved c) xs) (map (moved d) ys) → fits xs ys (less c d) ≡ true
unfolding fits
fits-between xs ys c d same =
    search (rules, (list_all-from_is_among (λ x. is_among ys (moved (less c d) x)) xs), (less-moved-other c d), (is_among-moved d ys), same.same, (is_among-moved c xs), (less-moved c))

-- no move to a cell of the second list takes the first list into it
unfoldable pub is_apart : List Cell → List Cell → Bool
is_apart xs ys = list_all (λ move. not (fits xs ys move)) ys

not_both : (b : Bool) → b ≡ true → not b ≡ true → ⊥
not_both b e f = search rules

-- where nothing moves
unfoldable pub origin : Cell
origin = (pos 0, pos 0)

pub moved-origin : (c : Cell) → moved c origin ≡ c
unfolding moved origin
moved-origin c = search rules

-- where two moved sets are the same and the first has the origin, what lies between the moves is a cell of the second
pub between_in : (xs ys : List Cell) (c d : Cell) → is_among xs origin ≡ true → SameCells (map (moved c) xs) (map (moved d) ys) → is_among ys (less c d) ≡ true
unfolding fits
between_in xs ys c d has same =
    ap (is_among ys) (sym (moved-origin (less c d)))
    ∙ is_among-all (λ x. is_among ys (moved (less c d) x)) xs origin (fits-between xs ys c d same) has

pub apart_differ : (xs ys : List Cell) (c d : Cell) → is_among xs origin ≡ true → is_apart xs ys ≡ true → SameCells (map (moved c) xs) (map (moved d) ys) → ⊥
unfolding is_apart
apart_differ xs ys c d has apart same = search (rules, not_both, fits-between, is_among-all, between_in)

-- only the move that moves nothing takes the list into itself
unfoldable pub is_still : List Cell → Bool
is_still xs = list_all (λ move. not (fits xs xs move) || cell_eq move origin) xs

-- moved to two places it has the same cells only where the places are one
pub still_same : (xs : List Cell) (c d : Cell) → is_among xs origin ≡ true → is_still xs ≡ true → SameCells (map (moved c) xs) (map (moved d) xs) → c ≡ d
unfolding is_still
still_same xs c d has still same =
    search (rules, (is_among-all (λ move. not (fits xs xs move) || cell_eq move origin) xs (less c d) still (between_in xs xs c d has same)), (fits-between xs xs c d same), (moved-less c d), (cell_eq-decides (less c d) origin), (moved-origin d))
