-- Rows that are copied downwards past the full ones.
use Rattle.std.proofs.Common.{◌≡◌, ◌≢◌, ℕ, suc, ◌+◌, ◌<◌, false, List, length, get_or, set, replicate, ◌∙◌, sym, subst, arith, rules}
use Rattle.std.proofs.Math.Path.{fun_ext, subst₃}
use Rattle.std.proofs.lemmas.Bool.{cases_eq, eq-eqb, ne_eqb}
use Rattle.std.proofs.lemmas.List.{get_or-set_same, get_or-set_other, length-set, length-replicate}
use Rattle.lane_board.specs.Field.{empty_field}
use Rattle.lane_board.specs.FullRows.{is_full, full_below, without_full_rows}
use Rattle.lane_board.specs.Lanes.{cells_of_bits}
use Rattle.lane_board.proofs.Removal.{full_below-full, full_below-other, without_full_rows-full, row_left, rows_left}
use Rattle.lane_board.proofs.BoardRows.{in_columns-set, cells_in-zeros, zero_at}
use Rattle.lane_board.proofs.RowTables.{is_full_row}

-- the rows that are left of the first y, of which `kept` are copied so far
pub record IsCopied (from rows : List ℕ) (kept y : ℕ) : Type 0 where
  pub counted : kept + full_below (cells_of_bits from) y ≡ y
  pub cells : cells_of_bits rows ≡ without_full_rows (cells_of_bits from) y
  pub small : (z : ℕ) → get_or rows z 0 < 1024
  pub size : length rows ≡ length from

pub copied_none : (from : List ℕ) (n : ℕ) → length from ≡ n → IsCopied from (replicate n 0) 0 0
unfolding full_below without_full_rows empty_field
copied_none from n size = search (rules, cells_in-zeros, zero_at, length-replicate)

-- a full row is passed over
pub copied_full : (from rows left : List ℕ) (kept more y next : ℕ) → next ≡ y + 1 → left ≡ rows → more ≡ kept → get_or from y 0 < 1024 → get_or from y 0 ≡ 1023 →
    IsCopied from rows kept y → IsCopied from left more next
copied_full from rows left kept more y next next_is left_is more_is small full so_far =
    search (rules, subst₃, (full_below-full (cells_of_bits from) y), (without_full_rows-full (cells_of_bits from) y), (is_full_row from y small), eq-eqb)

-- any other row is copied
pub copied_row : (from rows written : List ℕ) (kept more y next : ℕ) → next ≡ y + 1 → written ≡ set rows kept (get_or from y 0) → more ≡ kept + 1 →
    y < length from → get_or from y 0 < 1024 → get_or from y 0 ≢ 1023 → IsCopied from rows kept y → IsCopied from written more next
unfolding cells_of_bits
copied_row from rows written kept more y next next_is written_is more_is within small other so_far =
    subst₃ (IsCopied from) (sym written_is) (sym more_is) (sym next_is) (subst (IsCopied from (set rows kept (get_or from y 0)) (kept + 1)) {x = suc y} (omega arith) (record {
      counted = omega (arith, so_far.counted, full_below-other (cells_of_bits from) y stays);
      cells = fun_ext (λ x. fun_ext (λ z. cell x z));
      small = in_columns-set rows kept (get_or from y 0) so_far.small small;
      size = length-set rows kept (get_or from y 0) ∙ so_far.size;
    }))
  where
    stays : is_full (cells_of_bits from) y ≡ false
    stays = is_full_row from y small ∙ ne_eqb _ _ other

    cell : (x z : ℕ) → cells_of_bits (set rows kept (get_or from y 0)) x z ≡ without_full_rows (cells_of_bits from) (suc y) x z
    cell x z = search (rules, cases_eq, get_or-set_same, row_left, get_or-set_other, rows_left, stays)
