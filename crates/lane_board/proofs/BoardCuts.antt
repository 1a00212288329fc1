-- Boards that are filled or copied below a height.
use Rattle.std.proofs.Common.{◌≡◌, ℕ, ◌+◌, ◌<◌, ◌≤◌, min, true, nat_lt, List, length, get_or, refl, ap, ◌∙◌, arith, rules}
use Rattle.std.proofs.Math.Path.{fun_ext}
use Rattle.std.specs.Simd.Lanes.{chunk, put_chunk}
use Rattle.std.proofs.lemmas.List.{get_or_past}
use Rattle.std.proofs.lemmas.Simd.{get_or-put_chunk_above, length-put_chunk}
use Rattle.std.proofs.lemmas.Bool.{cases_lt, agree_below_at, and_left, and_right, lt-ltb, le-ltb}
use Rattle.lane_board.specs.Field.{intersection, rows_below}
use Rattle.lane_board.specs.Lanes.{has_bit, cells_of_bits}
use Rattle.lane_board.proofs.CellTests.{and_true}
use Rattle.lane_board.proofs.EightRows.{written_more, loaded}
use Rattle.lane_board.proofs.RowBits.{has_bit-zero, has_bit-above}

-- a full row has the ten columns
full_row_bits : (x : ℕ) → has_bit 1023 x ≡ nat_lt x 10
unfolding has_bit
full_row_bits x = search (rules, (cases_lt x 10), (agree_below_at (λ k. has_bit 1023 k) (λ k. true) 10 x refl), (lt-ltb x 10), (has_bit-above 1023 x), (le-ltb x 10))

pub filled_below : (height end : ℕ) (rows : List ℕ) → end ≡ height → ((y : ℕ) → y < end → get_or rows y 0 ≡ 1023) → ((y : ℕ) → end ≤ y → get_or rows y 0 ≡ 0) →
    cells_of_bits rows ≡ rows_below height
unfolding cells_of_bits rows_below
filled_below height end rows end_is filled empty =
    search (rules, fun_ext, cases_lt, full_row_bits, lt-ltb, and_true, has_bit-zero, and_right, le-ltb)

-- the rows below `end` are those of another board, and the others are empty
pub record IsCopiedBelow (xs rows : List ℕ) (size end : ℕ) : Type 0 where
  pub copied : (y : ℕ) → y < end → get_or rows y 0 ≡ get_or xs y 0
  pub empty : (y : ℕ) → end ≤ y → get_or rows y 0 ≡ 0
  pub size_is : length rows ≡ size

pub copied_more : (size at next : ℕ) (xs rows lanes written : List ℕ) → next ≡ at + 8 → at + 8 ≤ length rows → lanes ≡ chunk at 8 xs → length lanes ≡ 8 → written ≡ put_chunk at rows lanes →
    IsCopiedBelow xs rows size at → IsCopiedBelow xs written size next
copied_more size at next xs rows lanes written next_is within lanes_are eight written_is so_far = record {
  copied = written_more (λ y. get_or xs y 0) at next rows lanes written next_is within eight written_is (λ k below. loaded at k xs lanes lanes_are below) so_far.copied;
  empty = λ y above. ap (λ l. get_or l y 0) written_is ∙ get_or-put_chunk_above at rows lanes y 0 (omega (arith, eight)) ∙ so_far.empty y (omega arith);
  size_is = ap length written_is ∙ length-put_chunk at rows lanes ∙ so_far.size_is;
}

pub copied_all : (n m end : ℕ) (xs rows : List ℕ) → end ≡ min n m → length xs ≡ n → ((z : ℕ) → get_or xs z 0 < 1024) → IsCopiedBelow xs rows m end →
    cells_of_bits rows ≡ intersection (cells_of_bits xs) (rows_below m)
unfolding intersection rows_below cells_of_bits
copied_all n m end xs rows end_is size small all =
    search (rules, fun_ext, cases_lt, lt-ltb, has_bit-zero, and_true, has_bit-above, and_left, and_right, le-ltb, get_or_past)

pub copied_in_columns : (xs rows : List ℕ) (size end : ℕ) → ((z : ℕ) → get_or xs z 0 < 1024) → IsCopiedBelow xs rows size end → (y : ℕ) → get_or rows y 0 < 1024
copied_in_columns xs rows size end small all y = search (rules, cases_lt)
