-- The shape of a piece in a rotation, by its rows: which spans they are, and where the lowest row and the leftmost column lie.
use Rattle.std.proofs.Common.{◌≡◌, ℕ, zero, suc, ◌+◌, ◌<◌, ◌≤◌, Bool, true, not, ◌&&◌, ◌||◌, ◌==◌, nat_lt, ℤ, pos, negsuc, ◌+ℤ◌, ◌-ℤ◌, List, [], ◌∷◌, ◌++◌, length, map, get_or, refl, sym, ap, ◌∙◌, inl, inr, arith, rules}
use Rattle.std.specs.Prelude.{int_lt}
use Rattle.std.specs.List.{list_any, list_all, range_with_len}
use Rattle.std.specs.Ordering.{int_eq}
use Rattle.std.proofs.lemmas.Bool.Decides.{Decides-int_eq}
use Rattle.std.proofs.lemmas.List.Folds.{list_any-append}
use Rattle.std.proofs.lemmas.List.FromFn.{get_or-range_with_len, length-range_with_len}
use Rattle.std.proofs.lemmas.Bool.{and_parts, and_from, or_cases, or_left, or_right, eqb-true, eq-eqb, ltb-true, lt-ltb, false≢true}
use Rattle.std.proofs.lemmas.Int.{ints}
use Rattle.std.proofs.Math.Bool.{and-or_distrib_right}
use Rattle.srs.specs.declared.piece.Piece.{Piece}
use Rattle.srs.specs.declared.piece.Piece.TheVariants.{I, O, Z, S}
use Rattle.srs.specs.declared.rotation.Rotation.{Rotation}
use Rattle.srs.specs.declared.rotation.Rotation.TheVariants.{Spawn, Right, Reverse, Left}
use Rattle.srs.specs.Cells.{Cell, minus, shape}
use Rattle.srs.specs.SameCells.{cell_eq, is_among}
use Rattle.srs.proofs.CallerLemmas.{each_state, is_among-all, has_cell-head, list_all_each, implied}
use Rattle.prune.specs.Tiling.{sent}
use Rattle.lane_board.proofs.CallerLemmas.{same_from_both}
use Rattle.empty_cells.specs.declared.span.Span.{Span}
use Rattle.empty_cells.specs.Spans.{columns_of, forms_of}
use Rattle.empty_cells.specs.Stacks.{in_stack}

-- the leftmost column and the lowest row of a shape
abbrev pub leftmost : Piece → Rotation → ℤ
leftmost I Spawn = minus 1
leftmost I Reverse = minus 2
leftmost I _ = pos 0
leftmost O Spawn = pos 0
leftmost O Right = pos 0
leftmost O _ = minus 1
leftmost _ Right = pos 0
leftmost _ _ = minus 1

abbrev pub lowest : Piece → Rotation → ℤ
lowest I Right = minus 2
lowest I Left = minus 1
lowest I _ = pos 0
lowest O Right = minus 1
lowest O Reverse = minus 1
lowest O _ = pos 0
lowest _ Spawn = pos 0
lowest _ _ = minus 1

-- the index of its spans among those of the piece
abbrev pub form_at : Piece → Rotation → ℕ
form_at _ Spawn = 0
form_at O _ = 0
form_at I Reverse = 0
form_at S Reverse = 0
form_at Z Reverse = 0
form_at _ Right = 1
form_at I Left = 1
form_at S Left = 1
form_at Z Left = 1
form_at _ Reverse = 2
form_at _ Left = 3

-- its spans, from the lowest row up
abbrev pub form : Piece → Rotation → List Span
form piece rotation = get_or (forms_of piece) (form_at piece rotation) []

-- how far a column or row lies above another
abbrev pub distance : ℤ → ℕ
distance (pos n) = n
distance (negsuc n) = 0

-- the column and the level of a cell in its shape, from 0
abbrev pub place_in : Piece → Rotation → Cell → ℕ × ℕ
place_in piece rotation cell = (distance (cell.0 -ℤ leftmost piece rotation), distance (cell.1 -ℤ lowest piece rotation))

-- the same of spans
unfoldable pub places_of : List Span → List (ℕ × ℕ)
places_of [] = []
places_of (span ∷ spans) = map (λ c. (c, 0)) (columns_of span) ++ map (λ p. (p.0, suc p.1)) (places_of spans)

abbrev pub place_eq : ℕ × ℕ → ℕ × ℕ → Bool
place_eq p q = (p.0 == q.0) && (p.1 == q.1)

abbrev all_among : List (ℕ × ℕ) → List (ℕ × ℕ) → Bool
all_among ps qs = list_all (λ p. list_any (place_eq p) qs) ps

-- the cells of a shape and of its spans have the same places
same_places : (piece : Piece) (rotation : Rotation) →
    (all_among (map (place_in piece rotation) (shape piece rotation)) (places_of (form piece rotation)) && all_among (places_of (form piece rotation)) (map (place_in piece rotation) (shape piece rotation))) ≡ true
unfolding places_of
same_places = each_state (λ p r. all_among (map (place_in p r) (shape p r)) (places_of (form p r)) && all_among (places_of (form p r)) (map (place_in p r) (shape p r))) refl

-- a cell lies where its place says
is_at : Piece → Rotation → Cell → Bool
is_at piece rotation cell = let place = place_in piece rotation cell in
    int_eq (leftmost piece rotation +ℤ pos place.0) cell.0 && int_eq (lowest piece rotation +ℤ pos place.1) cell.1

each_at : (piece : Piece) (rotation : Rotation) → list_all (is_at piece rotation) (shape piece rotation) ≡ true
unfolding is_at
each_at = each_state (λ p r. list_all (is_at p r) (shape p r)) refl

-- the level of a cell
abbrev pub level : Piece → Rotation → Cell → ℕ
level piece rotation cell = (place_in piece rotation cell).1

-- each level has a cell
has_level : Piece → Rotation → ℕ → Bool
has_level piece rotation k = list_any (λ cell. level piece rotation cell == k) (shape piece rotation)

each_level : (piece : Piece) (rotation : Rotation) → list_all (has_level piece rotation) (range_with_len 0 (length (form piece rotation))) ≡ true
unfolding has_level
each_level = each_state (λ p r. list_all (has_level p r) (range_with_len 0 (length (form p r)))) refl

-- the level of a cell is that of one of the spans, and rises just as the row does
abbrev level_rises : Piece → Rotation → Cell → Cell → Bool
level_rises piece rotation c d =
    (not (int_lt c.1 d.1) || nat_lt (level piece rotation c) (level piece rotation d)) && (not (nat_lt (level piece rotation c) (level piece rotation d)) || int_lt c.1 d.1)

rises_in : Piece → Rotation → Bool
rises_in piece rotation = list_all (λ c. nat_lt (level piece rotation c) (length (form piece rotation)) && list_all (level_rises piece rotation c) (shape piece rotation)) (shape piece rotation)

each_rises : (piece : Piece) (rotation : Rotation) → rises_in piece rotation ≡ true
unfolding rises_in
each_rises = each_state rises_in refl

-- the rotation of the spans with an index
abbrev pub rotation_at : ℕ → Rotation
rotation_at zero = Spawn
rotation_at (suc zero) = Right
rotation_at (suc (suc zero)) = Reverse
rotation_at (suc (suc (suc _))) = Left

form_found : (piece : Piece) → list_all (λ i. form_at piece (rotation_at i) == i) (range_with_len 0 (length (forms_of piece))) ≡ true
form_found piece = search rules

at_within : (piece : Piece) (rotation : Rotation) → nat_lt (form_at piece rotation) (length (forms_of piece)) ≡ true
at_within = each_state (λ p r. nat_lt (form_at p r) (length (forms_of p))) refl

-- some span has the leftmost column, and some cell of the shape lies in it
abbrev pub has_leftmost : List (ℕ × ℕ) → Bool
has_leftmost places = list_any (λ p. p.0 == 0) places

each_leftmost : (piece : Piece) (rotation : Rotation) → has_leftmost (places_of (form piece rotation)) ≡ true
unfolding places_of
each_leftmost = each_state (λ p r. has_leftmost (places_of (form p r))) refl

each_left_cell : (piece : Piece) (rotation : Rotation) → list_any (λ c. int_eq c.0 (leftmost piece rotation)) (shape piece rotation) ≡ true
each_left_cell = each_state (λ p r. list_any (λ c. int_eq c.0 (leftmost p r)) (shape p r)) refl

-- a cell at a place, where its column and the row of its level are these
abbrev pub at_place : ℕ → (ℕ → ℕ) → ℕ → ℕ → ℕ × ℕ → Bool
at_place x rows a b place = (x + place.0 == a) && (rows place.1 == b)

any_map : {A B : Type 0} (test : B → Bool) (f : A → B) (xs : List A) → list_any test (map f xs) ≡ list_any (λ a. test (f a)) xs
any_map test f [] = refl
any_map test f (x ∷ xs) = ap (λ t. test (f x) || t) (any_map test f xs)

any_and : (test : ℕ → Bool) (q : Bool) (xs : List ℕ) → list_any (λ c. test c && q) xs ≡ (list_any test xs && q)
any_and test q [] = refl
any_and test q (x ∷ xs) = ap (λ t. (test x && q) || t) (any_and test q xs) ∙ sym (and-or_distrib_right (test x) (list_any test xs) q)

-- a cell of spans stands at one of their places
pub stack_by_places : (x : ℕ) (rows : ℕ → ℕ) (spans : List Span) (a b : ℕ) → in_stack x rows spans a b ≡ list_any (at_place x rows a b) (places_of spans)
unfolding in_stack places_of
stack_by_places x rows [] a b = refl
stack_by_places x rows (span ∷ spans) a b =
    search (rules, any_map, any_and, list_any-append, (stack_by_places x (λ k. rows (suc k)) spans a b))

-- a test that passes at a place passes where that place is among others
found_place : (test : ℕ × ℕ → Bool) (p : ℕ × ℕ) (qs : List (ℕ × ℕ)) → test p ≡ true → list_any (place_eq p) qs ≡ true → list_any test qs ≡ true
found_place test p [] passes among = absurd (false≢true among)
found_place test p (q ∷ qs) passes among =
    search (rules, or_cases, and_parts, eqb-true, or_left, or_right, (found_place test p qs passes))

any_among : (test : ℕ × ℕ → Bool) (ps qs : List (ℕ × ℕ)) → all_among ps qs ≡ true → list_any test ps ≡ true → list_any test qs ≡ true
any_among test [] qs all some = absurd (false≢true some)
any_among test (p ∷ ps) qs all some = search (rules, and_parts, or_cases, found_place, (any_among test ps qs))

-- cells that are sent, by their places
sent_by_places : (place : Cell → ℕ × ℕ) (move : ℤ) (row : ℤ → ℕ) (x : ℕ) (rows : ℕ → ℕ) (a b : ℕ) (cells : List Cell) →
    ((c : Cell) → is_among cells c ≡ true → cell_eq (sent move row c) (pos a, pos b) ≡ at_place x rows a b (place c)) →
    is_among (map (sent move row) cells) (pos a, pos b) ≡ list_any (at_place x rows a b) (map place cells)
unfolding is_among
sent_by_places place move row x rows a b [] each = refl
sent_by_places place move row x rows a b (c ∷ cells) each =
    search (rules, has_cell-head, or_right, (sent_by_places place move row x rows a b cells))

pub int_eq-pos : (m n : ℕ) → int_eq (pos m) (pos n) ≡ (m == n)
int_eq-pos m n = search (rules, same_from_both, Decides-int_eq, eq-eqb, eqb-true)

-- Columns and rows to which a shape is sent, and those of its spans.
pub record Matches (piece : Piece) (rotation : Rotation) (move : ℤ) (row : ℤ → ℕ) (x : ℕ) (rows : ℕ → ℕ) : Type 0 where
  pub column : leftmost piece rotation +ℤ move ≡ pos x
  pub row_at : (c : Cell) → is_among (shape piece rotation) c ≡ true → row c.1 ≡ rows (level piece rotation c)

-- the column to which a cell is sent
pub sent_column : (piece : Piece) (rotation : Rotation) (move : ℤ) (x : ℕ) → leftmost piece rotation +ℤ move ≡ pos x → (c : Cell) → is_among (shape piece rotation) c ≡ true → c.0 +ℤ move ≡ pos (x + (place_in piece rotation c).0)
unfolding is_at
sent_column piece rotation move x moved c has =
    let column : leftmost piece rotation +ℤ pos (place_in piece rotation c).0 ≡ c.0 = (Decides-int_eq _ _).0 (and_parts _ _ (is_among-all (is_at piece rotation) (shape piece rotation) c (each_at piece rotation) has)).0 in
    omega (arith, ints, moved)

-- then the cells are those of the spans
pub same_cells : (piece : Piece) (rotation : Rotation) (move : ℤ) (row : ℤ → ℕ) (x : ℕ) (rows : ℕ → ℕ) → Matches piece rotation move row x rows → (a b : ℕ) →
    is_among (map (sent move row) (shape piece rotation)) (pos a, pos b) ≡ in_stack x rows (form piece rotation) a b
unfolding sent
same_cells piece rotation move row x rows matches a b =
    let both = and_parts _ _ (same_places piece rotation) in
    sent_by_places (place_in piece rotation) move row x rows a b (shape piece rotation) each
    ∙ same_from_both _ _
    (any_among (at_place x rows a b) (map (place_in piece rotation) (shape piece rotation)) (places_of (form piece rotation)) both.0)
    (any_among (at_place x rows a b) (places_of (form piece rotation)) (map (place_in piece rotation) (shape piece rotation)) both.1)
    ∙ sym (stack_by_places x rows (form piece rotation) a b)
  where
    each : (c : Cell) → is_among (shape piece rotation) c ≡ true → cell_eq (sent move row c) (pos a, pos b) ≡ at_place x rows a b (place_in piece rotation c)
    each c has = search (rules, (sent_column piece rotation move x matches.column), int_eq-pos, matches.row_at)

-- a test that some cell passes
pub some_cell : (test : Cell → Bool) (cells : List Cell) → list_any test cells ≡ true → (c : Cell) × (is_among cells c ≡ true) × (test c ≡ true)
unfolding is_among
some_cell test [] some = absurd (false≢true some)
some_cell test (c ∷ cells) some = search (rules, or_cases, has_cell-head, or_right, (some_cell test cells))

-- a cell in the leftmost column of a shape
pub left_cell : (piece : Piece) (rotation : Rotation) → (c : Cell) × (is_among (shape piece rotation) c ≡ true) × (c.0 ≡ leftmost piece rotation)
left_cell piece rotation =
    let found = some_cell (λ c. int_eq c.0 (leftmost piece rotation)) (shape piece rotation) (each_left_cell piece rotation) in
    (found.0, found.1, (Decides-int_eq _ _).0 found.2)

left_place : (x : ℕ) (rows : ℕ → ℕ) (places : List (ℕ × ℕ)) → has_leftmost places ≡ true → (k : ℕ) × (list_any (at_place x rows x (rows k)) places ≡ true)
left_place x rows [] some = absurd (false≢true some)
left_place x rows (p ∷ places) some = elim (or_cases (p.0 == 0) _ some) [
  | inl here ↦ let zero_at = eqb-true p.0 0 here in (p.1, or_left (at_place x rows x (rows p.1) p) _ (and_from _ _ (eq-eqb (x + p.0) x (omega arith)) (eq-eqb (rows p.1) (rows p.1) refl)))
  | inr later ↦ let found = left_place x rows places later in (found.0, or_right (at_place x rows x (rows found.0) p) _ found.1)
]

-- spans of a piece have a cell in their leftmost column, and none to the left of it
pub left_in_stack : (piece : Piece) (rotation : Rotation) (x : ℕ) (rows : ℕ → ℕ) → (b : ℕ) × (in_stack x rows (form piece rotation) x b ≡ true)
left_in_stack piece rotation x rows =
    let found = left_place x rows (places_of (form piece rotation)) (each_leftmost piece rotation) in
    (rows found.0, stack_by_places x rows (form piece rotation) x (rows found.0) ∙ found.1)

right_of : (columns : List ℕ) (x a : ℕ) → list_any (λ column. x + column == a) columns ≡ true → x ≤ a
right_of [] x a some = absurd (false≢true some)
right_of (c ∷ columns) x a some = search (rules, or_cases, eqb-true, (right_of columns x a))

pub stack_right_of : (x : ℕ) (rows : ℕ → ℕ) (spans : List Span) (a b : ℕ) → in_stack x rows spans a b ≡ true → x ≤ a
unfolding in_stack
stack_right_of x rows [] a b here = absurd (false≢true here)
stack_right_of x rows (span ∷ spans) a b here =
    search (rules, or_cases, right_of, and_parts, (stack_right_of x (λ k. rows (suc k)) spans a b))

level_rise : (piece : Piece) (rotation : Rotation) (c d : Cell) → is_among (shape piece rotation) c ≡ true → is_among (shape piece rotation) d ≡ true → level_rises piece rotation c d ≡ true
unfolding rises_in
level_rise piece rotation c d has_c has_d =
    let each = is_among-all (λ c. nat_lt (level piece rotation c) (length (form piece rotation)) && list_all (level_rises piece rotation c) (shape piece rotation)) (shape piece rotation) c (each_rises piece rotation) has_c in
    is_among-all (level_rises piece rotation c) (shape piece rotation) d (and_parts (nat_lt (level piece rotation c) (length (form piece rotation))) _ each).1 has_d

pub level_within : (piece : Piece) (rotation : Rotation) (c : Cell) → is_among (shape piece rotation) c ≡ true → level piece rotation c < length (form piece rotation)
unfolding rises_in
level_within piece rotation c has =
    let each = is_among-all (λ c. nat_lt (level piece rotation c) (length (form piece rotation)) && list_all (level_rises piece rotation c) (shape piece rotation)) (shape piece rotation) c (each_rises piece rotation) has in
    ltb-true _ _ (and_parts (nat_lt (level piece rotation c) (length (form piece rotation))) _ each).0

-- the level rises with the row
pub level_up : (piece : Piece) (rotation : Rotation) (c d : Cell) → is_among (shape piece rotation) c ≡ true → is_among (shape piece rotation) d ≡ true → int_lt c.1 d.1 ≡ true → level piece rotation c < level piece rotation d
level_up piece rotation c d has_c has_d up =
    ltb-true _ _ (implied (int_lt c.1 d.1) _ up (and_parts (not (int_lt c.1 d.1) || nat_lt (level piece rotation c) (level piece rotation d)) _ (level_rise piece rotation c d has_c has_d)).0)

-- the row rises with the level
pub row_up : (piece : Piece) (rotation : Rotation) (c d : Cell) → is_among (shape piece rotation) c ≡ true → is_among (shape piece rotation) d ≡ true → level piece rotation c < level piece rotation d → int_lt c.1 d.1 ≡ true
row_up piece rotation c d has_c has_d up = search (rules, implied, lt-ltb, and_parts, level_rise)

-- a cell at a level
pub cell_at_level : (piece : Piece) (rotation : Rotation) (k : ℕ) → k < length (form piece rotation) → (c : Cell) × (is_among (shape piece rotation) c ≡ true) × (level piece rotation c ≡ k)
unfolding has_level
cell_at_level piece rotation k below =
    let test = list_all_each (has_level piece rotation) (range_with_len 0 (length (form piece rotation))) k 0 (each_level piece rotation) (omega (arith, length-range_with_len 0 (length (form piece rotation)))) in
    let here = ap (has_level piece rotation) {x = k} (sym (get_or-range_with_len 0 (length (form piece rotation)) k 0 below ∙ omega arith)) ∙ test in
    let found = some_cell (λ cell. level piece rotation cell == k) (shape piece rotation) here in
    (found.0, found.1, eqb-true _ _ found.2)

-- where a cell of a shape lies
pub row_by_level : (piece : Piece) (rotation : Rotation) (c : Cell) → is_among (shape piece rotation) c ≡ true → lowest piece rotation +ℤ pos (level piece rotation c) ≡ c.1
unfolding is_at
row_by_level piece rotation c has = (Decides-int_eq _ _).0 (and_parts _ _ (is_among-all (is_at piece rotation) (shape piece rotation) c (each_at piece rotation) has)).1

-- the index of the spans of a rotation
pub form_within : (piece : Piece) (rotation : Rotation) → form_at piece rotation < length (forms_of piece)
form_within piece rotation = ltb-true _ _ (at_within piece rotation)

pub form_with_index : (piece : Piece) (i : ℕ) → i < length (forms_of piece) → form piece (rotation_at i) ≡ get_or (forms_of piece) i []
form_with_index piece i below =
    search (rules, list_all_each, form_found, length-range_with_len, get_or-range_with_len, eqb-true)
