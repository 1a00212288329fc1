-- The four tests of bits by which a piece fits.
use Rattle.std.proofs.Common.{◌≡◌, ℕ, ◌+◌, ◌*◌, ◌/◌, ◌%◌, ◌^◌, ◌<◌, ◌≤◌, Bool, true, false, not, ◌&&◌, ◌==◌, bit_and, refl, sym, ap, ◌∙◌, inl, inr, arith, rules}
use Rattle.std.specs.Int.{trailing_zeros, w128}
use Rattle.std.proofs.lemmas.Bool.{and_from, and_parts, both_ways, cases_lt, false_from_ne_true}
use Rattle.std.proofs.lemmas.Nat.{and_le_l}
use Rattle.std.proofs.lemmas.Nat.Bits.{bit_at-trailing_zeros}
use Rattle.lane_board.specs.Field.{Field}
use Rattle.lane_board.specs.Lanes.{has_bit}
use Rattle.lane_board.proofs.CallerLemmas.{has_bit-and, has_bit-past, has_bit-zero, same_from_columns}
use Rattle.well.specs.Counts.{is_filled_row}
use Rattle.empty_cells.specs.Empties.{cells_by_column}
use Rattle.tiled_pieces.specs.TilingLists.{LaidPiece}
use Rattle.tiled_pieces.specs.Built.{Fits, IsGone, Rests}
use Rattle.tiled_pieces.specs.Words.{has_above, has_floor, is_between, is_filled}
use Rattle.tiled_pieces.proofs.RowTests.{between_has, between_some, cell_from, cell_of, gone_row, row_gone, row_has, row_some}
use Rattle.tiled_pieces.proofs.FloorTests.{above_has, above_some, floor_from, floor_test}

pub none_set : (n : ℕ) → ((k : ℕ) → has_bit n k ≡ true → ⊥) → n ≡ 0
none_set n none = same_from_columns n 0 (λ k. false_from_ne_true (has_bit n k) (none k) ∙ sym (has_bit-zero k))

pub unset : (n k : ℕ) → n ≡ 0 → has_bit n k ≡ false
unset n k none = ap (λ n. has_bit n k) none ∙ has_bit-zero k

-- the cell of a bit
pub cell_at : (n k : ℕ) → has_bit n k ≡ true → cells_by_column n (k / 8) (k % 8) ≡ true
cell_at n k bit = cell_from n (k / 8) (k % 8) (omega arith) (ap (has_bit n) {x = 8 * (k / 8) + k % 8} {y = k} (omega arith) ∙ bit)

-- a number that is not 0 has a bit
pub some_bit : (n : ℕ) → n < 2 ^ 128 → (n ≡ 0 → ⊥) → (k : ℕ) × (has_bit n k ≡ true)
unfolding has_bit
some_bit n small some = (trailing_zeros w128 n, ap (λ b. b == 1) (bit_at-trailing_zeros w128 n (omega (arith, some)) small).1)

without_none : (b d : Bool) → (b && not d) ≡ false → b ≡ true → d ≡ true
without_none b d e is = search rules

without_both : (b d : Bool) → (b && not d) ≡ true → d ≡ true → ⊥
without_both true true e is = both_ways false refl e
without_both false d e is = both_ways false refl e
without_both true false e is = both_ways false refl is

module _ (e p : ℕ) (drops : Bool) (laid : LaidPiece) (is : laid.cells ≡ cells_by_column p) (small : e < 2 ^ 80) (small_p : p < 2 ^ 80) where
  of_piece : (x y : ℕ) → laid.cells x y ≡ cells_by_column p x y
  of_piece x y = ap (λ (F : Field). F x y) is

  to_piece : (x y : ℕ) → cells_by_column p x y ≡ true → laid.cells x y ≡ true
  to_piece x y here = of_piece x y ∙ here

  from_piece : (x y : ℕ) → laid.cells x y ≡ true → cells_by_column p x y ≡ true
  from_piece x y here = sym (of_piece x y) ∙ here

  -- all cells of the piece are in the set
  pub none_outside : (w : ℕ) → ((k : ℕ) → has_bit w k ≡ (has_bit p k && not (has_bit e k))) → Fits (cells_by_column e) drops laid → w ≡ 0
  none_outside w bits fits = none_set w (λ k bit.
      let both = and_parts (has_bit p k) (not (has_bit e k)) (sym (bits k) ∙ bit) in
      let here = cell_of e (k / 8) (k % 8) small (fits.inside (k / 8) (k % 8) (to_piece (k / 8) (k % 8) (cell_at p k both.0))) in
      without_both (has_bit p k) (has_bit e k) (sym (bits k) ∙ bit) (ap (has_bit e) {x = k} {y = 8 * (k / 8) + k % 8} (omega arith) ∙ here.bit))

  all_inside : (w : ℕ) → ((k : ℕ) → has_bit w k ≡ (has_bit p k && not (has_bit e k))) → w ≡ 0 → (x y : ℕ) → laid.cells x y ≡ true → cells_by_column e x y ≡ true
  all_inside w bits nil x y here =
      let cell = cell_of p x y small_p (from_piece x y here) in
      cell_from e x y cell.row (without_none (has_bit p (8 * x + y)) _ (sym (bits (8 * x + y)) ∙ unset w (8 * x + y) nil) cell.bit)

  -- one of its cells has a floor
  pub some_floor : (floors : ℕ) → ((x y : ℕ) → x ≤ 9 → y < 8 → has_bit floors (8 * x + y) ≡ has_floor (cells_by_column e) x y) → Fits (cells_by_column e) drops laid → bit_and p floors ≡ 0 → ⊥
  some_floor floors bits fits nil =
      let rests = fits.rests in
      let cell = cell_of p rests.x rests.y small_p (from_piece rests.x rests.y rests.there) in
      both_ways _ (unset (bit_and p floors) (8 * rests.x + rests.y) nil)
      (has_bit-and p floors (8 * rests.x + rests.y) ∙ and_from _ _ cell.bit (bits rests.x rests.y cell.column cell.row ∙ floor_test e rests.x rests.y small rests.floor))

  floor_some : (floors : ℕ) → ((x y : ℕ) → x ≤ 9 → y < 8 → has_bit floors (8 * x + y) ≡ has_floor (cells_by_column e) x y) → (bit_and p floors ≡ 0 → ⊥) → Rests (cells_by_column e) laid
  floor_some floors bits some =
      let has = some_bit (bit_and p floors) (omega (arith, and_le_l p floors, small_p)) some in
      let k = has.0 in
      let both = and_parts (has_bit p k) (has_bit floors k) (sym (has_bit-and p floors k) ∙ has.1) in
      let here = cell_at p k both.0 in
      let cell = cell_of p (k / 8) (k % 8) small_p here in
      record {
        x = k / 8;
        y = k % 8;
        there = to_piece (k / 8) (k % 8) here;
        floor = floor_from e (k / 8) (k % 8) small (sym (bits (k / 8) (k % 8) cell.column cell.row) ∙ ap (has_bit floors) {x = 8 * (k / 8) + k % 8} {y = k} (omega arith) ∙ both.1);
      }

  -- the rows between its rows are gone
  pub none_between : (gaps rows : ℕ) → gaps < 256 → ((z : ℕ) → z < 8 → has_bit gaps z ≡ is_between (is_filled_row (cells_by_column p)) z) → ((y : ℕ) → y < 8 → has_bit rows y ≡ is_filled_row (cells_by_column e) y) → Fits (cells_by_column e) drops laid → bit_and gaps rows ≡ 0
  none_between gaps rows few between has fits = none_set (bit_and gaps rows) (λ z bit.
      let both = and_parts (has_bit gaps z) (has_bit rows z) (sym (has_bit-and gaps rows z) ∙ bit) in
      elim (cases_lt z 8) [
        | inl low ↦
            let sides = between_some (is_filled_row (cells_by_column p)) z (sym (between z low) ∙ both.0) in
            let lower = row_some (cells_by_column p) sides.y sides.lower in
            let upper = row_some (cells_by_column p) sides.v sides.upper in
            let gone = fits.unbroken lower.0 sides.y upper.0 sides.v z (to_piece lower.0 sides.y lower.1) (to_piece upper.0 sides.v upper.1) sides.below sides.above
            (λ x. of_piece x z ∙ row_gone p z small_p sides.none x) in
            both_ways _ (gone_row (cells_by_column e) z gone) (sym (has z low) ∙ both.1)
        | inr high ↦ both_ways _ (has_bit-past gaps 8 z (omega (arith, few)) high) both.0
      ])

  between_none : (gaps rows : ℕ) → ((z : ℕ) → z < 8 → has_bit gaps z ≡ is_between (is_filled_row (cells_by_column p)) z) → ((y : ℕ) → y < 8 → has_bit rows y ≡ is_filled_row (cells_by_column e) y) → bit_and gaps rows ≡ 0 →
      (x y u v z : ℕ) → laid.cells x y ≡ true → laid.cells u v ≡ true → y < z → z < v → IsGone laid.cells z → IsGone (cells_by_column e) z
  between_none gaps rows between has nil x y u v z lower upper below above none =
      let top = cell_of p u v small_p (from_piece u v upper) in
      let low : z < 8 = omega (arith, above, top.row) in
      let is_gap = between z low ∙ between_has (is_filled_row (cells_by_column p)) y z v (gone_row (cells_by_column p) z (λ t. sym (of_piece t z) ∙ none t)) (row_has p x y small_p (from_piece x y lower)) (row_has p u v small_p (from_piece u v upper)) below above top.row in
      row_gone e z small (false_from_ne_true _ (λ some. both_ways _ (unset (bit_and gaps rows) z nil) (has_bit-and gaps rows z ∙ and_from _ _ is_gap (has z low ∙ some))))

  -- if it must drop, nothing covers it
  pub none_covered : (covered : ℕ) → ((x y : ℕ) → x ≤ 9 → y < 8 → has_bit covered (8 * x + y) ≡ (drops && has_above (is_filled (cells_by_column e)) 8 x y)) → Fits (cells_by_column e) drops laid → bit_and p covered ≡ 0
  unfolding is_filled
  none_covered covered bits fits = none_set (bit_and p covered) (λ k bit.
      let both = and_parts (has_bit p k) (has_bit covered k) (sym (has_bit-and p covered k) ∙ bit) in
      let here = cell_at p k both.0 in
      let cell = cell_of p (k / 8) (k % 8) small_p here in
      let over = and_parts drops _ (sym (bits (k / 8) (k % 8) cell.column cell.row) ∙ ap (has_bit covered) {x = 8 * (k / 8) + k % 8} {y = k} (omega arith) ∙ both.1) in
      let filled = above_some (is_filled (cells_by_column e)) 8 (k / 8) (k % 8) over.1 in
      let parts = and_parts (is_filled_row (cells_by_column e) filled.z) (not (cells_by_column e (k / 8) filled.z)) filled.here in
      both_ways _ (gone_row (cells_by_column e) filled.z (fits.clear over.0 (k / 8) (k % 8) filled.z (to_piece (k / 8) (k % 8) here) filled.above filled.low (is_not _ parts.1))) parts.0)
    where
      is_not : (b : Bool) → not b ≡ true → b ≡ false
      is_not b e = search rules

  covered_none : (covered : ℕ) → ((x y : ℕ) → x ≤ 9 → y < 8 → has_bit covered (8 * x + y) ≡ (drops && has_above (is_filled (cells_by_column e)) 8 x y)) → bit_and p covered ≡ 0 →
      drops ≡ true → (x y z : ℕ) → laid.cells x y ≡ true → y < z → z < 8 → cells_by_column e x z ≡ false → IsGone (cells_by_column e) z
  unfolding is_filled
  covered_none covered bits nil must x y z here above low empty =
      let cell = cell_of p x y small_p (from_piece x y here) in
      row_gone e z small (false_from_ne_true _ (λ has.
      both_ways _ (unset (bit_and p covered) (8 * x + y) nil)
      (has_bit-and p covered (8 * x + y) ∙ and_from _ _ cell.bit (bits x y cell.column cell.row ∙ and_from _ _ must
      (above_has (is_filled (cells_by_column e)) 8 x y z above (omega (arith, low)) low (and_from _ _ has (not_so _ empty)))))))
    where
      not_so : (b : Bool) → b ≡ false → not b ≡ true
      not_so b e = search rules

  pub fits_from : (w floors gaps rows covered : ℕ) → ((k : ℕ) → has_bit w k ≡ (has_bit p k && not (has_bit e k))) →
      ((x y : ℕ) → x ≤ 9 → y < 8 → has_bit floors (8 * x + y) ≡ has_floor (cells_by_column e) x y) →
      ((z : ℕ) → z < 8 → has_bit gaps z ≡ is_between (is_filled_row (cells_by_column p)) z) → ((y : ℕ) → y < 8 → has_bit rows y ≡ is_filled_row (cells_by_column e) y) →
      ((x y : ℕ) → x ≤ 9 → y < 8 → has_bit covered (8 * x + y) ≡ (drops && has_above (is_filled (cells_by_column e)) 8 x y)) →
      w ≡ 0 → (bit_and p floors ≡ 0 → ⊥) → bit_and gaps rows ≡ 0 → bit_and p covered ≡ 0 → Fits (cells_by_column e) drops laid
  fits_from w floors gaps rows covered inside_bits floor_bits between_bits row_bits covered_bits inside floor between covers = record {
    inside = all_inside w inside_bits inside;
    unbroken = between_none gaps rows between_bits row_bits between;
    rests = floor_some floors floor_bits floor;
    clear = covered_none covered covered_bits covers;
  }
