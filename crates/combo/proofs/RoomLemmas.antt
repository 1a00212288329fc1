-- Between walls each placement of a run takes room for four cells.
use Rattle.std.proofs.Common.{◌≡◌, ℕ, zero, suc, ◌+◌, ◌-◌, ◌*◌, ◌<◌, ◌≤◌, ◌⊎◌, Bool, true, false, not, ◌&&◌, pos, List, [], ◌∷◌, length, refl, sym, ap, ◌∙◌, inl, inr, arith, rules}
use Rattle.std.specs.Prelude.{IsTrue, nat_lt}
use Rattle.std.specs.List.{list_all}
use Rattle.std.proofs.Math.Path.{fun_ext}
use Rattle.std.proofs.lemmas.Bool.{cases_Bool, false_from_ne_true, false≢true, or_cases, and_parts, and_from, and_right, or_left, or_right, not-true, not_from_false, ltb-true, eqb-true}
use Rattle.lane_board.specs.Field.{Field, with_cell}
use Rattle.lane_board.specs.FullRows.{columns, is_full, full_below, without_full_rows}
use Rattle.lane_board.specs.CellCount.{cell_count}
use Rattle.lane_board.proofs.CallerLemmas.{cell_count-le, cell_count-with, cell_from_full, full_above, full_below-le, full_below-other, lowered_from, lowered_to, same_from_both, takes_ten_each}
use Rattle.srs.specs.declared.placement.Placement.{Placement}
use Rattle.srs.specs.Kick.{Table}
use Rattle.srs.specs.Cells.{cells_of}
use Rattle.srs.specs.SameCells.{is_among}
use Rattle.srs.proofs.CallerLemmas.{is_among-all}
use Rattle.well.specs.Counts.{empties_below}
use Rattle.well.specs.Free.{is_free, is_free_at, is_open}
use Rattle.well.specs.Lock.{with_cells, together, locked, rows_removed}
use Rattle.well.proofs.CallerLemmas.{adds_four_cells, free_inside}
use Rattle.moves.specs.declared.key.DropMode.{DropMode}
use Rattle.moves.proofs.CallerLemmas.{place-free}
use Rattle.combo.specs.Room.{HasWalls, open_gaps}
use Rattle.problem.specs.Runs.{Runs}
use Rattle.combo.proofs.RoomCells.{Has, Crossing, crosses_height, high_or_none, within_three, within_two}
use Rattle.combo.proofs.RoomRows.{cell_count-more, cells_left, columns_le, columns_less, comes_from, comes_from_above, same_above, same_row}

-- ---- rows

-- a full row among those below n
full_row : (G : Field) (n : ℕ) → 1 ≤ full_below G n → (y : ℕ) × (y < n) × (is_full G y ≡ true)
unfolding full_below
full_row G zero some = absurd (omega (arith, some))
full_row G (suc n) some = search (rules, (cases_Bool (is_full G n)), (full_row G n), (full_below-other G n))

-- an element that fails
failing : (p small : ℕ → Bool) (xs : List ℕ) → list_all p xs ≡ false → list_all small xs ≡ true → (x : ℕ) × (small x ≡ true) × (p x ≡ false)
failing p small [] none all = cc
failing p small (x ∷ xs) none all = search (rules, (cases_Bool (p x)), (failing p small xs), (and_parts (small x) (list_all small xs) all))

-- an empty cell of a row that isn't full
empty_in_row : (F : Field) (y : ℕ) → is_full F y ≡ false → (x : ℕ) × (x < 10) × (F x y ≡ false)
unfolding is_full
empty_in_row F y other = let found = failing (λ x. F x y) (λ x. nat_lt x 10) columns other refl in (found.0, ltb-true found.0 10 found.1, found.2)

-- ---- one placement

module _ (F : Field) (q : Placement) (is_gap : ℕ → Bool) (height left right : ℕ) (walls : HasWalls F is_gap height left right) (free : IsTrue (is_free F q)) (removes : 1 ≤ rows_removed F q) where
  abbrev G : Field
  G = together F q

  kept : (x y : ℕ) → F x y ≡ true → G x y ≡ true
  unfolding together with_cells
  kept x y filled = or_left _ _ filled

  placed : (x y : ℕ) → Has q x y → G x y ≡ true
  unfolding together with_cells
  placed x y has = or_right _ _ has

  added : (x y : ℕ) → F x y ≡ false → G x y ≡ true → Has q x y
  unfolding together with_cells
  added x y empty filled = search (rules, (or_cases (F x y) (is_among (cells_of q) (pos x, pos y)) filled), false≢true)

  open_cell : (x y : ℕ) → Has q x y → F x y ≡ false
  unfolding is_free_at is_open
  open_cell x y has = not-true (F x y) (and_parts _ (not (F x y)) (is_among-all (is_open F) (cells_of q) (pos x, pos y) free has)).1

  -- a row that is full now lies below the height
  full_low : (y : ℕ) → height ≤ y → is_full G y ≡ false
  full_low y above =
      search (rules, false_from_ne_true, (added left y (walls.empty_left y above)), (cell_from_full G left y), (added right y (walls.empty_right y above)), (cell_from_full G right y), (within_three q left y right y))

  abbrev removed : ℕ
  removed = full_below G height

  all_removed : full_below G 23 ≡ removed
  all_removed = let size : height + (23 - height) ≡ 23 = omega (arith, walls.low) in ap (full_below G) (sym size) ∙ full_above G height (23 - height) full_low

  -- a cell of the placement in a gap below the height
  record InGap : Type 0 where
    x : ℕ
    y : ℕ
    below : y < height
    column : x < 10
    empty : F x y ≡ false
    has : Has q x y
    gap : is_gap x ≡ true

  in_gap : InGap
  unfolding rows_removed
  in_gap =
      let row = full_row G height (omega (arith, all_removed, removes)) in
      let cell = empty_in_row F row.0 (walls.none_full row.0 row.1) in
      record {
        x = cell.0;
        y = row.0;
        below = row.1;
        column = cell.1;
        empty = cell.2;
        has = added cell.0 row.0 cell.2 (cell_from_full G cell.0 row.0 cell.1 row.2);
        gap = walls.gaps cell.0 row.0 cell.1 row.1 cell.2;
      }

  -- so it stays out of a column that is far from each gap
  stays_out : (column y : ℕ) → height ≤ y → ((x : ℕ) → is_gap x ≡ true → (x + 3 ≤ column) ⊎ (column + 3 ≤ x)) → Has q column y → ⊥
  stays_out column y above far has = search (rules, (within_two q in_gap.x in_gap.y column y in_gap.has has), (within_two q column y in_gap.x in_gap.y has in_gap.has))

  abbrev after : Field
  after = locked F q

  abbrev lower : ℕ
  lower = height - removed

  lower_is : lower + removed ≡ height
  lower_is = omega (arith, full_below-le G height)

  -- the row at the height is the row at the new height
  same_at : (x : ℕ) → G x height ≡ true → after x lower ≡ true
  unfolding locked
  same_at x filled = lowered_to G 23 x lower (record { row = height; below = omega (arith, walls.low); filled = filled; stays = full_low height (omega arith); lowered = lower_is })

  -- the walls stand after the placement, lower by the rows that go
  walls_after : HasWalls after is_gap lower left right
  unfolding locked is_full
  walls_after = record {
    low = omega (arith, walls.low);
    gaps = λ x y column under empty.
        let from = comes_from G height y (omega (arith, under, lower_is)) in
        walls.gaps x from.row column from.below (false_from_ne_true _ (λ was. false≢true (sym empty ∙ same_row G height y x (omega (arith, walls.low)) from ∙ kept x from.row was)));
    none_full = λ y under.
        let from = comes_from G height y (omega (arith, under, lower_is)) in
        row_is_full y from.row (λ x. same_row G height y x (omega (arith, walls.low)) from) ∙ from.stays;
    apart = walls.apart;
    inside = walls.inside;
    far_left = walls.far_left;
    far_right = walls.far_right;
    empty_left = stays_empty left walls.empty_left walls.far_left;
    empty_right = stays_empty right walls.empty_right walls.far_right;
  }
    where
      row_is_full : (y row : ℕ) → ((x : ℕ) → without_full_rows G 23 x y ≡ G x row) → is_full (without_full_rows G 23) y ≡ is_full G row
      row_is_full y row same = ap (λ (p : ℕ → Bool). list_all p columns) (fun_ext same)

      stays_empty : (column : ℕ) → ((y : ℕ) → height ≤ y → F column y ≡ false) → ((x : ℕ) → is_gap x ≡ true → (x + 3 ≤ column) ⊎ (column + 3 ≤ x)) → (y : ℕ) → lower ≤ y → without_full_rows G 23 column y ≡ false
      stays_empty column empty far y above = false_from_ne_true _ (λ filled.
          let was = lowered_from G 23 column y filled in
          let high = comes_from_above G height was.row y (omega (arith, above, lower_is)) was.stays was.lowered in
          stays_out column was.row high far (added column was.row (empty was.row high) was.filled))

  -- what is open after the placement was open before it
  was_open : (x : ℕ) → (is_gap x && not (after x lower)) ≡ true → (is_gap x && not (F x height)) ≡ true
  was_open x opened =
      search (rules, and_from, (and_parts (is_gap x) (not (after x lower)) opened), not_from_false, false_from_ne_true, false≢true, not-true, (same_at x), (kept x height))

  -- a placement that crosses the height covers an open gap
  covers : Crossing q height → 1 ≤ height → open_gaps after is_gap lower + 1 ≤ open_gaps F is_gap height
  covers crossing some =
      let gap = walls.gaps crossing.x (height - 1) (omega (arith, crossing.column)) (omega (arith, some)) (open_cell crossing.x (height - 1) crossing.below) in
      columns_less (λ x. is_gap x && not (after x lower)) (λ x. is_gap x && not (F x height)) crossing.x (omega (arith, crossing.column)) was_open
      (and_right _ _ (ap not (same_at crossing.x (placed crossing.x height crossing.at))))
      (and_from _ _ gap (not_from_false _ (open_cell crossing.x height crossing.at)))

  -- at least one cell more below the height
  one_more : cell_count F height + 1 ≤ cell_count G height
  unfolding with_cell
  one_more =
      search (rules, (cell_count-with F in_gap.x in_gap.y height in_gap.column in_gap.below in_gap.empty), (cell_count-more (with_cell F in_gap.x in_gap.y) G height), or_cases, kept, eqb-true, and_parts, (placed in_gap.x in_gap.y in_gap.has))

  -- four cells more below the height, if none lies at or above it
  four_more : ((x y : ℕ) → height ≤ y → Has q x y → ⊥) → cell_count G height ≡ cell_count F height + 4
  unfolding locked rows_removed together with_cells
  four_more none = search (rules, (same_above F G height (23 - height)), same_from_both, kept, (adds_four_cells F q free), (takes_ten_each G 23), or_cases)

  -- the room that is left is less by four
  takes_four : 4 + cell_count F height + 3 * open_gaps after is_gap lower ≤ cell_count G height + 3 * open_gaps F is_gap height
  takes_four = elim (high_or_none height (cells_of q) (free_inside F q free)) [
    | inl high ↦
        let cell = in_gap in
        let crossing = crosses_height q height cell.x cell.y high.0 high.1 (free_inside F q free) cell.has high.2 cell.below high.3 in
        omega (arith, covers crossing (omega (arith, cell.below)), one_more)
    | inr none ↦ omega (arith, four_more none, columns_le (λ x. is_gap x && not (after x lower)) (λ x. is_gap x && not (F x height)) was_open)
  ]

-- four cells have room for each placement of a run
pub runs_fit : (table : Table) (mode : DropMode) (F : Field) (is_gap : ℕ → Bool) (height left right : ℕ) (run : List Placement) → HasWalls F is_gap height left right → Runs table mode F run
    → 4 * length run + cell_count F height ≤ 10 * height + 3 * open_gaps F is_gap height
unfolding locked
runs_fit table mode F is_gap height left right [] walls runs = omega (arith, cell_count-le F height)
runs_fit table mode F is_gap height left right (q ∷ run) walls runs =
    let free = place-free table F mode q runs.0 in
    let rest = runs_fit table mode (locked F q) is_gap _ left right run (walls_after F q is_gap height left right walls free runs.1) runs.2 in
    let counted = cells_left (together F q) height (height - full_below (together F q) height) (omega (arith, walls.low)) (lower_is F q is_gap height left right walls free runs.1) in
    omega (arith, rest, counted, lower_is F q is_gap height left right walls free runs.1, takes_four F q is_gap height left right walls free runs.1)

pub runs_have_room : (table : Table) (mode : DropMode) (F : Field) (is_gap : ℕ → Bool) (height left right : ℕ) (run : List Placement) → HasWalls F is_gap height left right → Runs table mode F run
    → 4 * length run ≤ empties_below F height + 3 * open_gaps F is_gap height
runs_have_room table mode F is_gap height left right run walls runs = omega (arith, runs_fit table mode F is_gap height left right run walls runs, cell_count-le F height)
