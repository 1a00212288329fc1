-- Positions whose rows stand in rows of an earlier field: at the start, and after one more placement.
use Rattle.std.proofs.Common.{◌≡◌, ℕ, zero, suc, ◌==◌, int_lt, nat_le, length, length-set, ◌+◌, ◌-◌, ◌<◌, ◌≤◌, Bool, true, false, not, ◌&&◌, ◌||◌, nat_lt, List, [], ◌∷◌, get_or, pos, negsuc, nat_abs, refl, sym, ap, ap₂, subst, ◌∙◌, inl, inr, arith, rules}
use Rattle.std.proofs.Math.Path.{fun_ext}
use Rattle.std.proofs.lemmas.Bool.{agree_below_at, and_from, and_parts, cases_eq, cases_lt, cases_order, eq-eqb, eqb-true, false≢true, leb-true, lt-ltb, ltb-true, not-true, or_left, or_right, not-false}
use Rattle.std.proofs.Common.{set as list_set}
use Rattle.std.proofs.lemmas.List.{get_or-set_other}
use Rattle.std.proofs.lemmas.Grind.{get_or-set_at}
use Rattle.std.specs.List.{list_all, list_any}
use Rattle.lane_board.specs.Field.{Field, difference, rows_below, has_cell}
use Rattle.lane_board.specs.FullRows.{columns, is_full, full_below, without_full_rows}
use Rattle.lane_board.specs.Lanes.{has_bit}
use Rattle.lane_board.proofs.CallerLemmas.{full_below-full, full_below-le, full_below-other, lowered_from, lowered_rises, lowered_to, not_full_from_cell, one_row, same_from_both}
use Rattle.srs.specs.declared.placement.Placement.{Placement}
use Rattle.srs.specs.Cells.{Cell, cells_of}
use Rattle.srs.specs.SameCells.{is_among}
use Rattle.srs.proofs.CallerLemmas.{is_among-all, list_all-from_is_among}
use Rattle.well.specs.Counts.{is_filled_row}
use Rattle.well.specs.Free.{is_free, is_free_at, is_open}
use Rattle.well.specs.Lock.{locked, rows_removed, together, with_cells}
use Rattle.well.specs.LockLaws.{LiesBelow, is_below}
use Rattle.well.proofs.CallerLemmas.{full_below_height, together_below}
use Rattle.empty_cells.specs.Empties.{has_cell_at}
use Rattle.empty_cells.specs.SentCells.{sent_cells, sent_up}
use Rattle.empty_cells.proofs.CallerLemmas.{cell_of, sent_from, sent_has}
use Rattle.std.proofs.lemmas.Bool.{or_cases}
use Rattle.percent.specs.Spread.{ComesFrom, IsSpread, KeepsRows, is_row_of}

-- a row in which one of the first rows stands
pub record IsRowOf (height : ℕ) (rows : List ℕ) (z : ℕ) : Type 0 where
  pub row : ℕ
  pub below : row < height
  pub sent : get_or rows row 0 ≡ z

pub row_of : (height : ℕ) (rows : List ℕ) (z : ℕ) → is_row_of height rows z ≡ true → IsRowOf height rows z
unfolding is_row_of
row_of zero rows z is = absurd (false≢true is)
row_of (suc height) rows z is = elim (or_cases (is_row_of height rows z) (get_or rows height 0 == z) is) [
  | inl before ↦ let at = row_of height rows z before in record { row = at.row; below = let low = at.below in omega arith; sent = at.sent }
  | inr here ↦ record { row = height; below = omega arith; sent = eqb-true (get_or rows height 0) z here }
]

pub is_row : (height : ℕ) (rows : List ℕ) (z row : ℕ) → row < height → get_or rows row 0 ≡ z → is_row_of height rows z ≡ true
unfolding is_row_of
is_row zero rows z row low sent = absurd (omega arith)
is_row (suc height) rows z row low sent = elim (cases_eq row height) [
  | inl same ↦ or_right (is_row_of height rows z) (get_or rows height 0 == z) (eq-eqb _ _ (ap (λ k. get_or rows k 0) (sym same) ∙ sent))
  | inr apart ↦ or_left (is_row_of height rows z) (get_or rows height 0 == z) (is_row height rows z row (omega (arith, low, apart)) sent)
]

blank_cell : (F : Field) (rows : ℕ) (c : Cell) → is_open F c ≡ true → int_lt c.1 (pos rows) ≡ true → has_cell_at (difference (rows_below rows) F) c ≡ true
unfolding is_open difference rows_below has_cell
blank_cell F rows c blank low = search (rules, and_parts, leb-true, and_from, lt-ltb, false≢true)

-- a blank cell below a row is one of the empty cells there
blank_below : (F : Field) (rows : ℕ) (cells : List Cell) → list_all (is_open F) cells ≡ true → list_all (λ cell. int_lt cell.1 (pos rows)) cells ≡ true
    → list_all (has_cell_at (difference (rows_below rows) F)) cells ≡ true
blank_below F rows [] blank low = refl
blank_below F rows (c ∷ cells) blank low =
    let here = and_parts (is_open F c) (list_all (is_open F) cells) blank in
    let below = and_parts (int_lt c.1 (pos rows)) (list_all (λ cell. int_lt cell.1 (pos rows)) cells) low in
    and_from _ _ (blank_cell F rows c here.0 below.0) (blank_below F rows cells here.1 below.1)

pub placed_inside : (F : Field) (rows : ℕ) (q : Placement) → is_free F q ≡ true → is_below rows q ≡ true → list_all (has_cell_at (difference (rows_below rows) F)) (cells_of q) ≡ true
unfolding is_free_at
placed_inside F rows q free below = blank_below F rows (cells_of q) free below

-- so its cells lie in rows 0 to 7
pub placed_in_rows : (F : Field) (height : ℕ) (q : Placement) → height ≤ 8 → is_free F q ≡ true → is_below height q ≡ true → list_all (has_cell_at (rows_below 8)) (cells_of q) ≡ true
unfolding difference rows_below has_cell
placed_in_rows F height q few free below =
    list_all-from_is_among (has_cell_at (rows_below 8)) (cells_of q) (λ c has. inside c (is_among-all (has_cell_at (difference (rows_below height) F)) (cells_of q) c (placed_inside F height q free below) has))
  where
    inside : (c : Cell) → has_cell_at (difference (rows_below height) F) c ≡ true → has_cell_at (rows_below 8) c ≡ true
    inside (pos x, pos y) here =
        let place = and_parts (nat_lt x 10) (nat_lt y height) (and_parts (nat_lt x 10 && nat_lt y height) (not (F x y)) here).0 in
        and_from _ _ place.0 (lt-ltb y 8 (let low = ltb-true y height place.1 in omega arith))
    inside (pos x, negsuc y) here = absurd (false≢true here)
    inside (negsuc x, pos y) here = absurd (false≢true here)
    inside (negsuc x, negsuc y) here = absurd (false≢true here)

-- each row stands in itself
own : (y : ℕ) → y < 8 → get_or (0 ∷ 1 ∷ 2 ∷ 3 ∷ 4 ∷ 5 ∷ 6 ∷ 7 ∷ []) y 0 ≡ y
own y low = eqb-true _ _ (agree_below_at (λ k. get_or (0 ∷ 1 ∷ 2 ∷ 3 ∷ 4 ∷ 5 ∷ 6 ∷ 7 ∷ []) k 0 == k) (λ k. true) 8 y refl low)

pub spread-own : (F E : Field) (height : ℕ) → height ≤ 8 → E ≡ difference (rows_below height) F → IsSpread F height (0 ∷ 1 ∷ 2 ∷ 3 ∷ 4 ∷ 5 ∷ 6 ∷ 7 ∷ []) E
unfolding difference rows_below
spread-own F E height few is = record {
  rises = λ y z lower below. omega (arith, own y (omega arith), own z (omega arith));
  within = λ y low. omega (arith, own y low);
  same = λ x y near below.
      ap (E x) (own y (omega arith)) ∙ (λ i. is i x y)
      ∙ ap₂ (λ a b. (a && b) && not (F x y)) (lt-ltb x 10 (omega arith)) (lt-ltb y height below);
  only = λ x z here.
      let low = ltb-true z height (and_parts (nat_lt x 10) (nat_lt z height) (and_parts (nat_lt x 10 && nat_lt z height) (not (F x z)) (sym (λ i. is i x z) ∙ here)).0).1 in
      is_row height (0 ∷ 1 ∷ 2 ∷ 3 ∷ 4 ∷ 5 ∷ 6 ∷ 7 ∷ []) z z low (own z (omega arith));
}

-- ---- a placement

module _ (F : Field) (height : ℕ) (rows : List ℕ) (E : Field) (spread : IsSpread F height rows E) (q : Placement) (free : is_free F q ≡ true) (below : is_below height q ≡ true) where
  -- a cell of the placement
  pub record NearCell (c : Cell) : Type 0 where
    pub x : ℕ
    pub y : ℕ
    pub is : c ≡ (pos x, pos y)
    pub column : x < 10
    pub row : y < height
    pub empty : F x y ≡ false

  pub near : (c : Cell) → is_among (cells_of q) c ≡ true → NearCell c
  unfolding difference rows_below
  near c has =
      let at = cell_of (difference (rows_below height) F) c (is_among-all (has_cell_at (difference (rows_below height) F)) (cells_of q) c (placed_inside F height q free below) has) in
      let parts = and_parts (nat_lt at.x 10 && nat_lt at.y height) (not (F at.x at.y)) at.has in
      let place = and_parts (nat_lt at.x 10) (nat_lt at.y height) parts.0 in
      record { x = at.x; y = at.y; is = at.is; column = ltb-true at.x 10 place.0; row = ltb-true at.y height place.1; empty = not-true (F at.x at.y) parts.1 }

  one_place : (y z : ℕ) → y < height → z < height → get_or rows y 0 ≡ get_or rows z 0 → y ≡ z
  one_place y z low_y low_z same = elim (cases_order y z) [
    | inl is ↦ is
    | inr apart ↦ elim apart [
      | inl lower ↦ absurd (omega (arith, spread.rises y z lower low_z, same))
      | inr upper ↦ absurd (omega (arith, spread.rises z y upper low_y, same))
    ]
  ]

  -- its cells are sent to where their rows stand, and no others
  pub sent_here : (x y : ℕ) → y < height → sent_cells rows q x (get_or rows y 0) ≡ is_among (cells_of q) (pos x, pos y)
  unfolding sent_cells sent_up
  sent_here x y low = same_from_both _ _
      (λ has. let from = sent_from (sent_up rows) (cells_of q) (pos x, pos (get_or rows y 0)) has in back from.0 (near from.0 from.1) from.1 from.2)
      (λ has. sent_has (sent_up rows) (cells_of q) (pos x, pos y) has)
    where
      back : (c : Cell) → NearCell c → is_among (cells_of q) c ≡ true → sent_up rows c ≡ (pos x, pos (get_or rows y 0)) → is_among (cells_of q) (pos x, pos y) ≡ true
      back c at has sent =
          let there : ◌≡◌ {A = Cell} (pos at.x, pos (get_or rows at.y 0)) (pos x, pos (get_or rows y 0)) = sym (ap (sent_up rows) at.is) ∙ sent in
          let column : at.x ≡ x = ap (λ (c : Cell). nat_abs c.0) there in
          let row : at.y ≡ y = one_place at.y y at.row low (ap (λ (c : Cell). nat_abs c.1) there) in
          subst (λ c. is_among (cells_of q) c ≡ true) (at.is ∙ (λ i. (pos (column i), pos (row i)))) has

  -- where the placement stands, full rows as well
  pub spread-placed : IsSpread (together F q) height rows (difference E (sent_cells rows q))
  unfolding difference together with_cells
  spread-placed = record {
    rises = spread.rises;
    within = spread.within;
    same = λ x y column low. ap₂ (λ a b. a && not b) (spread.same x y column low) (sent_here x y low) ∙ apart (F x y) (is_among (cells_of q) (pos x, pos y));
    only = λ x z here. spread.only x z (and_parts (E x z) (not (sent_cells rows q x z)) here).0;
  }
    where
      apart : (a b : Bool) → (not a && not b) ≡ not (a || b)
      apart true b = refl
      apart false b = refl

-- ---- full rows are removed

module _ (G : Field) (height : ℕ) (rows kept : List ℕ) (E : Field) (few : height ≤ 8) (none : (x y : ℕ) → height ≤ y → G x y ≡ false)
    (spread : IsSpread G height rows E) (keeps : KeepsRows G height rows kept) (within : (y : ℕ) → y < 8 → get_or kept y 0 < 8) (near : (x z : ℕ) → E x z ≡ true → x < 10) where
  from : (k : ℕ) → k < height - full_below G 23 → ComesFrom G height k
  from k low = keeps.from k (omega (arith, full_below_height G height (omega arith) none))

  kept_at : (k : ℕ) (o : ComesFrom G height k) → get_or kept k 0 ≡ get_or rows o.row 0
  kept_at k o =
      let here : o.row - full_below G o.row ≡ k = omega (arith, o.lowered) in
      ap (λ n. get_or kept n 0) (sym here) ∙ keeps.each o.row o.below o.stays

  up : (k m : ℕ) (o : ComesFrom G height k) (p : ComesFrom G height m) → k < m → o.row < p.row
  up k m o p lower = elim (cases_order o.row p.row) [
    | inl same ↦ absurd (omega (arith, ap (full_below G) same, o.lowered, p.lowered, same, lower))
    | inr apart ↦ elim apart [
      | inl below ↦ below
      | inr above ↦ absurd (omega (arith, lowered_rises G p.row o.row p.stays above, o.lowered, p.lowered, lower))
    ]
  ]

  -- a cell is left where it was filled in the row that comes here
  left_same : (x k : ℕ) (o : ComesFrom G height k) → G x o.row ≡ without_full_rows G 23 x k
  left_same x k o = same_from_both _ _
      (λ filled. lowered_to G 23 x k (record { row = o.row; below = let low = o.below in omega arith; filled = filled; stays = o.stays; lowered = o.lowered }))
      (λ left. let was = lowered_from G 23 x k left in subst (λ row. G x row ≡ true) (one_row G k was.row o.row was.stays o.stays was.lowered o.lowered) was.filled)

  -- and no row is full
  lowered-open : (k : ℕ) → k < height - full_below G 23 → is_full (without_full_rows G 23) k ≡ false
  unfolding is_full
  lowered-open k low =
      let o = from k low in
      ap (λ (p : ℕ → Bool). list_all p columns) (fun_ext (λ x. sym (left_same x k o))) ∙ o.stays

  pub spread-lowered : IsSpread (without_full_rows G 23) (height - full_below G 23) kept E
  spread-lowered = record {
    rises = λ y z lower below.
        let o = from y (omega (arith, lower, below)) in
        let p = from z below in
        omega (arith, kept_at y o, kept_at z p, spread.rises o.row p.row (up y z o p lower) p.below);
    within = within;
    same = λ x k column low.
        let o = from k low in
        ap (E x) (kept_at k o) ∙ spread.same x o.row column o.below ∙ ap not (left_same x k o);
    only = λ x z here. let at = back x z here (row_of height rows z (spread.only x z here)) in is_row (height - full_below G 23) kept z at.row at.below at.sent;
  }
    where
      back : (x z : ℕ) → E x z ≡ true → IsRowOf height rows z → IsRowOf (height - full_below G 23) kept z
      back x z here at =
          let column = near x z here in
          let empty : G x at.row ≡ false = not-true (G x at.row) (sym (spread.same x at.row (omega arith) at.below) ∙ ap (E x) at.sent ∙ here) in
          let stays = not_full_from_cell G x at.row column empty in
          record {
            row = at.row - full_below G at.row;
            below = omega (arith, full_below_height G height (omega arith) none, lowered_rises G at.row height stays at.below, full_below-le G at.row);
            sent = keeps.each at.row at.below stays ∙ at.sent;
          }

-- the position after a placement
pub spread-after : (F : Field) (height : ℕ) (rows kept : List ℕ) (E : Field) (q : Placement) → height ≤ 8 → LiesBelow F height → IsSpread F height rows E → is_free F q ≡ true → is_below height q ≡ true
    → KeepsRows (together F q) height rows kept → ((y : ℕ) → y < 8 → get_or kept y 0 < 8) → ((x z : ℕ) → E x z ≡ true → x < 10)
    → IsSpread (locked F q) (height - rows_removed F q) kept (difference E (sent_cells rows q))
unfolding locked rows_removed difference
spread-after F height rows kept E q few low spread free below keeps within near =
    spread-lowered (together F q) height rows kept (difference E (sent_cells rows q)) few (together_below F q height low below)
    (spread-placed F height rows E spread q free below) keeps within (λ x z here. near x z (and_parts (E x z) (not (sent_cells rows q x z)) here).0)

-- which has no full row
pub opens-after : (F : Field) (height : ℕ) (rows kept : List ℕ) (E : Field) (q : Placement) → height ≤ 8 → LiesBelow F height → IsSpread F height rows E → is_free F q ≡ true → is_below height q ≡ true
    → KeepsRows (together F q) height rows kept → ((y : ℕ) → y < 8 → get_or kept y 0 < 8) → ((x z : ℕ) → E x z ≡ true → x < 10)
    → (y : ℕ) → y < height - rows_removed F q → is_full (locked F q) y ≡ false
unfolding locked rows_removed difference
opens-after F height rows kept E q few low spread free below keeps within near =
    lowered-open (together F q) height rows kept (difference E (sent_cells rows q)) few (together_below F q height low below)
    (spread-placed F height rows E spread q free below) keeps within (λ x z here. near x z (and_parts (E x z) (not (sent_cells rows q x z)) here).0)

-- ---- which rows stay

-- a row stays where the set has a cell in it
pub stays-with : (G E : Field) (height set : ℕ) (rows : List ℕ) → IsSpread G height rows E → ((y : ℕ) → y < 8 → has_bit set y ≡ is_filled_row E y)
    → (y : ℕ) → y < height → y < 8 → has_bit set (get_or rows y 0) ≡ not (is_full G y)
unfolding is_full is_filled_row
stays-with G E height set rows spread is y low small =
    is (get_or rows y 0) (spread.within y small) ∙ each columns (λ x near. spread.same x y near low) refl
  where
    each : (xs : List ℕ) → ((x : ℕ) → x ≤ 9 → E x (get_or rows y 0) ≡ not (G x y)) → list_all (λ x. nat_le x 9) xs ≡ true → list_any (λ x. E x (get_or rows y 0)) xs ≡ not (list_all (λ x. G x y) xs)
    each [] same near = refl
    each (x ∷ xs) same near =
        let parts = and_parts (nat_le x 9) (list_all (λ x. nat_le x 9) xs) near in
        ap₂ ◌||◌ (same x (leb-true x 9 parts.0)) (each xs same parts.1) ∙ turned (G x y) (list_all (λ x. G x y) xs)
      where
        turned : (a b : Bool) → (not a || not b) ≡ not (a && b)
        turned true b = refl
        turned false b = refl

-- the rows of the first y that stay were put in order
pub record Keeping (G : Field) (rows kept : List ℕ) (count y : ℕ) : Type 0 where
  pub size : length kept ≡ 8
  pub counted : count + full_below G y ≡ y
  pub each : (row : ℕ) → row < y → is_full G row ≡ false → get_or kept (row - full_below G row) 0 ≡ get_or rows row 0
  pub from : (k : ℕ) → k < count → ComesFrom G y k

-- rows that are put so far are small
pub zero_at : (k : ℕ) → k < 8 → get_or {A = ℕ} (0 ∷ 0 ∷ 0 ∷ 0 ∷ 0 ∷ 0 ∷ 0 ∷ 0 ∷ []) k 0 < 8
zero_at k low =
    let zero : get_or {A = ℕ} (0 ∷ 0 ∷ 0 ∷ 0 ∷ 0 ∷ 0 ∷ 0 ∷ 0 ∷ []) k 0 ≡ 0 = eqb-true _ _ (agree_below_at (λ k. get_or {A = ℕ} (0 ∷ 0 ∷ 0 ∷ 0 ∷ 0 ∷ 0 ∷ 0 ∷ 0 ∷ []) k 0 == 0) (λ k. true) 8 k refl low) in
    omega (arith, zero)

pub small_set : (kept : List ℕ) (count row : ℕ) → count < length kept → row < 8 → ((k : ℕ) → k < 8 → get_or kept k 0 < 8) → (k : ℕ) → k < 8 → get_or (list_set kept count row) k 0 < 8
small_set kept count row within small each k low = elim (cases_eq k count) [
  | inl same ↦ let put = get_or-set_at kept count k row 0 same within in omega (arith, put)
  | inr apart ↦ let put = get_or-set_other kept count k row 0 apart in let old = each k low in omega (arith, put)
]

pub keeping-starts : (G : Field) (rows kept : List ℕ) → length kept ≡ 8 → Keeping G rows kept 0 0
unfolding full_below
keeping-starts G rows kept size = search rules

pub keeping-more : (G : Field) (rows kept : List ℕ) (count y : ℕ) → y < 8 → is_full G y ≡ false → Keeping G rows kept count y → Keeping G rows (list_set kept count (get_or rows y 0)) (count + 1) (y + 1)
keeping-more G rows kept count y low stays state =
    let counted = state.counted in
    let size = state.size in
    let next : full_below G (y + 1) ≡ full_below G y = ap (full_below G) {x = y + 1} {y = suc y} (omega arith) ∙ full_below-other G y stays in
    record {
      size = length-set kept count (get_or rows y 0) ∙ size;
      counted = omega (arith, counted, next);
      each = λ row below row_stays. elim (cases_eq row y) [
        | inl same ↦
            let at : row - full_below G row ≡ count = omega (arith, counted, ap (full_below G) same, same) in
            get_or-set_at kept count (row - full_below G row) (get_or rows y 0) 0 at (omega (arith, size, counted)) ∙ ap (λ k. get_or rows k 0) (sym same)
        | inr apart ↦
            let before : row < y = omega (arith, below, apart) in
            let other : row - full_below G row ≡ count → ⊥ = λ e. omega (arith, e, counted, lowered_rises G row y row_stays before, full_below-le G row) in
            get_or-set_other kept count (row - full_below G row) (get_or rows y 0) 0 other ∙ state.each row before row_stays
      ];
      from = λ k few. elim (cases_lt k count) [
        | inl before ↦ let o = state.from k before in record { row = o.row; below = let b = o.below in omega arith; stays = o.stays; lowered = o.lowered }
        | inr past ↦ record { row = y; below = omega arith; stays = stays; lowered = omega (arith, counted, few, past) }
      ];
    }

pub keeping-pass : (G : Field) (rows kept : List ℕ) (count y : ℕ) → is_full G y ≡ true → Keeping G rows kept count y → Keeping G rows kept count (y + 1)
keeping-pass G rows kept count y full state =
    let counted = state.counted in
    let next : full_below G (y + 1) ≡ full_below G y + 1 = ap (full_below G) {x = y + 1} {y = suc y} (omega arith) ∙ full_below-full G y full in
    record {
      size = state.size;
      counted = omega (arith, counted, next);
      each = λ row below row_stays. elim (cases_eq row y) [
        | inl same ↦ absurd (false≢true (sym row_stays ∙ ap (is_full G) same ∙ full))
        | inr apart ↦ state.each row (omega (arith, below, apart)) row_stays
      ];
      from = λ k few. let o = state.from k few in record { row = o.row; below = let b = o.below in omega arith; stays = o.stays; lowered = o.lowered };
    }

pub keeping-ends : (G : Field) (rows kept : List ℕ) (count height y : ℕ) → y ≡ height → Keeping G rows kept count y → KeepsRows G height rows kept
keeping-ends G rows kept count height y all state = search rules

-- a row of the set isn't full, and one that it doesn't have is
pub not_full : (set : Bool) (G : Field) (y : ℕ) → set ≡ not (is_full G y) → set ≡ true → is_full G y ≡ false
not_full set G y is there = not-true (is_full G y) (sym is ∙ there)

pub row_full : (set : Bool) (G : Field) (y : ℕ) → set ≡ not (is_full G y) → set ≡ false → is_full G y ≡ true
row_full set G y is none = not-false (is_full G y) (sym is ∙ none)
