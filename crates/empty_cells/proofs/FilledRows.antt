-- The rows in which a set of cells has one, as bits.
use Rattle.std.proofs.Common.{◌≡◌, ℕ, ◌+◌, ◌*◌, ◌/◌, ◌^◌, ◌<◌, Bool, true, false, ◌&&◌, ◌||◌, [], ◌∷◌, bit_and, bit_or, refl, sym, ap, ap₂, ◌∙◌, arith}
use Rattle.std.proofs.Math.Path.{fun_ext}
use Rattle.std.specs.List.{list_any}
use Rattle.std.proofs.lemmas.Bool.{lt-ltb}
use Rattle.lane_board.specs.FullRows.{columns}
use Rattle.lane_board.specs.Lanes.{has_bit}
use Rattle.lane_board.proofs.CallerLemmas.{and_true, has_bit-and, has_bit-or, has_bit-shifted_right}
use Rattle.well.specs.Counts.{is_filled_row}
use Rattle.empty_cells.specs.Empties.{cells_by_column}
use Rattle.empty_cells.proofs.RowLemmas.{ones}

-- a cell in rows 0 to 7
pub by_column_at : (n x y : ℕ) → y < 8 → cells_by_column n x y ≡ has_bit n (8 * x + y)
unfolding cells_by_column
by_column_at n x y low = ap (λ t. t && has_bit n (8 * x + y)) (lt-ltb y 8 low)

-- a bit of a set or of the same set moved down
pub or_moved : (n j k m : ℕ) → j + k ≡ m → has_bit (bit_or n (n / 2 ^ j)) k ≡ (has_bit n k || has_bit n m)
or_moved n j k m is = has_bit-or n (n / 2 ^ j) k ∙ ap (λ b. has_bit n k || b) (has_bit-shifted_right n j k ∙ ap (has_bit n) is)

grouped : (a b c d e f g h i j : Bool) → ((((a || b) || (c || d)) || ((e || f) || (g || h))) || (i || j)) ≡ (a || (b || (c || (d || (e || (f || (g || (h || (i || (j || false))))))))))
grouped true b c d e f g h i j = refl
grouped false true c d e f g h i j = refl
grouped false false true d e f g h i j = refl
grouped false false false true e f g h i j = refl
grouped false false false false true f g h i j = refl
grouped false false false false false true g h i j = refl
grouped false false false false false false true h i j = refl
grouped false false false false false false false true i j = refl
grouped false false false false false false false false true j = refl
grouped false false false false false false false false false true = refl
grouped false false false false false false false false false false = refl

module _ (n y : ℕ) (low : y < 8) where
  abbrev two : ℕ
  two = bit_or n (n / 2 ^ 8)

  abbrev four : ℕ
  four = bit_or two (two / 2 ^ 16)

  abbrev eight : ℕ
  eight = bit_or four (four / 2 ^ 32)

  of_two : (k m : ℕ) → 8 + k ≡ m → has_bit two k ≡ (has_bit n k || has_bit n m)
  of_two k m is = or_moved n 8 k m is

  of_four : (k : ℕ) → has_bit four k ≡ ((has_bit n k || has_bit n (8 + k)) || (has_bit n (16 + k) || has_bit n (24 + k)))
  of_four k = or_moved two 16 k (16 + k) refl ∙ ap₂ ◌||◌ (of_two k (8 + k) refl) (of_two (16 + k) (24 + k) (omega arith))

  four_at : (k a b c : ℕ) → 8 + k ≡ a → 16 + k ≡ b → 24 + k ≡ c → has_bit four k ≡ ((has_bit n k || has_bit n a) || (has_bit n b || has_bit n c))
  four_at k a b c e f g = rw (sym e, sym f, sym g) (of_four k)

  bits : has_bit (bit_and (bit_or eight (two / 2 ^ 64)) 255) y ≡ list_any (λ x. has_bit n (8 * x + y)) columns
  bits = has_bit-and _ 255 y ∙ and_true _ _ (ones y low) ∙ has_bit-or eight (two / 2 ^ 64) y
      ∙ ap₂ ◌||◌ (or_moved four 32 y (32 + y) refl ∙ ap₂ ◌||◌ (of_four y) (four_at (32 + y) (40 + y) (48 + y) (56 + y) (omega arith) (omega arith) (omega arith)))
      (has_bit-shifted_right two 64 y ∙ of_two (64 + y) (72 + y) (omega arith))
      ∙ grouped (has_bit n y) (has_bit n (8 + y)) (has_bit n (16 + y)) (has_bit n (24 + y)) (has_bit n (32 + y)) (has_bit n (40 + y)) (has_bit n (48 + y)) (has_bit n (56 + y)) (has_bit n (64 + y)) (has_bit n (72 + y))
      ∙ ap (λ k. has_bit n k || list_any (λ x. has_bit n (8 * x + y)) (1 ∷ 2 ∷ 3 ∷ 4 ∷ 5 ∷ 6 ∷ 7 ∷ 8 ∷ 9 ∷ [])) {x = y} {y = 0 + y} (omega arith)

  pub rows_bit : has_bit (bit_and (bit_or eight (two / 2 ^ 64)) 255) y ≡ is_filled_row (cells_by_column n) y
  unfolding is_filled_row
  rows_bit = bits ∙ ap (λ (test : ℕ → Bool). list_any test columns) (fun_ext (λ x. sym (by_column_at n x y low)))
