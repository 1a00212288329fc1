-- Eight rows moved by columns, as shifts of each lane.
use Rattle.std.proofs.Common.{◌≡◌, ℕ, ◌+◌, ◌-◌, ◌*◌, ◌/◌, ◌%◌, ◌^◌, ◌<◌, ◌≤◌, ℤ, pos, ◌+ℤ◌, ◌-ℤ◌, bit_and, List, ◌++◌, length, get_or, map, replicate, ap, ◌∙◌, sym, inl, inr, arith, rules}
use Rattle.std.proofs.Math.Path.{fun_ext}
use Rattle.std.specs.Simd.Lanes.{chunk, put_chunk, zip2}
use Rattle.std.proofs.lemmas.Bool.{cases_lt}
use Rattle.std.proofs.lemmas.List.{length-map, get_or-map, get_or_past, get_or_append_left, get_or-append_right}
use Rattle.std.proofs.lemmas.Int.{ints}
use Rattle.std.proofs.lemmas.Nat.{and_mask}
use Rattle.std.proofs.lemmas.Simd.{zip2_splat, map-map, get_or-put_chunk_above}
use Rattle.lane_board.specs.Lanes.{moved_row, row_at}
use Rattle.lane_board.proofs.BoardRows.{zero_at}
use Rattle.lane_board.proofs.EightRows.{written_more, loaded}
use Rattle.lane_board.proofs.MovedRows.{moved_row-zero}

pub shifted_left : (lanes : List ℕ) (right : ℕ) → length lanes ≡ 8 →
    zip2 bit_and (zip2 (λ row k. row * 2 ^ k % 2 ^ 16) lanes (replicate 8 right)) (replicate 8 1023) ≡ map (λ row. row * 2 ^ right % 1024) lanes
shifted_left lanes right eight =
    ap (λ l. zip2 bit_and l (replicate 8 1023)) (zip2_splat (λ row k. row * 2 ^ k % 2 ^ 16) lanes 8 right eight)
    ∙ zip2_splat bit_and (map (λ row. row * 2 ^ right % 2 ^ 16) lanes) 8 1023 (length-map lanes (λ row. row * 2 ^ right % 2 ^ 16) ∙ eight)
    ∙ map-map (λ row. bit_and row 1023) (λ row. row * 2 ^ right % 2 ^ 16) lanes
    ∙ ap (λ (f : ℕ → ℕ). map f lanes) (fun_ext (λ row. omega (arith, and_mask (row * 2 ^ right % 2 ^ 16) 10)))

pub moved_by_left : (dx : ℤ) (left : ℕ) (lanes : List ℕ) → 0 < left → pos left +ℤ dx ≡ pos 0 → map (λ row. row / 2 ^ left) lanes ≡ map (moved_row dx) lanes
unfolding moved_row
moved_by_left dx left lanes some opposite = search rules

pub moved_by_right : (dx : ℤ) (right : ℕ) (lanes : List ℕ) → dx ≡ pos right → map (λ row. row * 2 ^ right % 1024) lanes ≡ map (moved_row dx) lanes
unfolding moved_row
moved_by_right dx right lanes e = ap (λ d. map (moved_row d) lanes) (sym e)

-- eight rows from row `at` on, moved by columns
lane_moved : (dx : ℤ) (at k : ℕ) (rows lanes moved : List ℕ) → lanes ≡ chunk at 8 rows → length lanes ≡ 8 → moved ≡ map (moved_row dx) lanes → k < 8 →
    get_or moved k 0 ≡ moved_row dx (get_or rows (at + k) 0)
lane_moved dx at k rows lanes moved lanes_are eight moved_is below = search (rules, (get_or-map (moved_row dx) lanes k 0 0), loaded)

-- the moved rows of a board in a frame of empty rows, of which the first nine stand below it
abbrev pub framed_row : ℤ → List ℕ → ℕ → ℕ
framed_row dx rows z = moved_row dx (row_at rows (pos z -ℤ pos 9))

pub record IsFramed (dx : ℤ) (rows framed : List ℕ) (end : ℕ) : Type 0 where
  pub moved : (z : ℕ) → z < end → get_or framed z 0 ≡ framed_row dx rows z
  pub empty : (z : ℕ) → end ≤ z → get_or framed z 0 ≡ 0

pub framed_none : (dx : ℤ) (rows : List ℕ) (n : ℕ) → IsFramed dx rows (replicate n 0) 9
unfolding row_at
framed_none dx rows n = search (rules, zero_at, moved_row-zero)

pub framed_more : (dx : ℤ) (at end next : ℕ) (rows framed lanes moved written : List ℕ) → end ≡ 9 + at → next ≡ end + 8 → end + 8 ≤ length framed →
    lanes ≡ chunk at 8 rows → length lanes ≡ 8 → moved ≡ map (moved_row dx) lanes → written ≡ put_chunk end framed moved →
    IsFramed dx rows framed end → IsFramed dx rows written next
unfolding row_at
framed_more dx at end next rows framed lanes moved written end_is next_is within lanes_are eight moved_is written_is so_far = record {
  moved = written_more (framed_row dx rows) end next framed moved written next_is within eight_moved written_is (λ k below.
      let inside : pos (end + k) -ℤ pos 9 ≡ pos (at + k) = omega (arith, ints) in
      lane_moved dx at k rows lanes moved lanes_are eight moved_is below ∙ sym (ap (λ y. moved_row dx (row_at rows y)) inside)) so_far.moved;
  empty = λ z above. ap (λ l. get_or l z 0) written_is ∙ get_or-put_chunk_above end framed moved z 0 (omega (arith, eight_moved)) ∙ so_far.empty z (omega arith);
}
  where
    eight_moved : length moved ≡ 8
    eight_moved = ap length moved_is ∙ length-map lanes (moved_row dx) ∙ eight

pub framed_all : (dx : ℤ) (n end : ℕ) (rows framed : List ℕ) → length rows ≡ n → end ≡ 9 + n → IsFramed dx rows framed end → (z : ℕ) → get_or framed z 0 ≡ framed_row dx rows z
unfolding row_at
framed_all dx n end rows framed size end_is all z = search (rules, cases_lt, moved_row-zero, get_or_past)

-- eight rows that lie so many rows higher: of these eight and the next
pub eight_higher : (at up : ℕ) (dy : ℤ) (rows lanes next result : List ℕ) → pos up +ℤ dy ≡ pos 0 → up ≤ 8 → length lanes ≡ 8 → lanes ≡ chunk at 8 rows → ((k : ℕ) → k < 8 → get_or next k 0 ≡ get_or rows (at + 8 + k) 0) →
    ((k : ℕ) → k < 8 → get_or result k 0 ≡ get_or (lanes ++ next) (up + k) 0) → (k : ℕ) → k < 8 → get_or result k 0 ≡ row_at rows (pos (at + k) -ℤ dy)
unfolding row_at
eight_higher at up dy rows lanes next result opposite small eight lanes_are next_is joined k below =
    let there : pos (at + k) -ℤ dy ≡ pos (at + (up + k)) = omega (arith, ints) in
    joined k below ∙ elim (cases_lt (up + k) 8) [
      | inl here ↦ get_or_append_left lanes next 0 (up + k) (omega (arith, eight)) ∙ loaded at (up + k) rows lanes lanes_are here
      | inr past ↦ get_or-append_right lanes next 8 (up + k) 0 eight past ∙ next_is (up + k - 8) (omega arith) ∙ ap (λ j. get_or rows j 0) {x = at + 8 + (up + k - 8)} {y = at + (up + k)} (omega arith)
    ] ∙ ap (row_at rows) (sym there)

-- and so many rows lower: of the eight before and these
pub eight_lower : (at from : ℕ) (dy : ℤ) (rows before lanes result : List ℕ) → pos from +ℤ dy ≡ pos 8 → from ≤ 8 → length before ≡ 8 → length lanes ≡ 8 → lanes ≡ chunk at 8 rows → ((k : ℕ) → k < 8 → get_or before k 0 ≡ row_at rows (pos (at + k) -ℤ pos 8)) →
    ((k : ℕ) → k < 8 → get_or result k 0 ≡ get_or (before ++ lanes) (from + k) 0) → (k : ℕ) → k < 8 → get_or result k 0 ≡ row_at rows (pos (at + k) -ℤ dy)
unfolding row_at
eight_lower at from dy rows before lanes result dy_is small eight_before eight lanes_are before_is joined k below =
    joined k below ∙ elim (cases_lt (from + k) 8) [
      | inl early ↦ search (rules, get_or_append_left, eight_before)
      | inr late ↦
          let there : pos (at + (from + k - 8)) ≡ pos (at + k) -ℤ dy = omega (arith, ints) in
          get_or-append_right before lanes 8 (from + k) 0 eight_before late ∙ loaded at (from + k - 8) rows lanes lanes_are (omega arith) ∙ ap (row_at rows) there
    ]

-- the eight rows before row `at`, or none below the board
pub none_before : (at k : ℕ) (rows : List ℕ) → at ≡ 0 → k < 8 → get_or (replicate 8 0) k 0 ≡ row_at rows (pos (at + k) -ℤ pos 8)
unfolding row_at
none_before at k rows first below = search (rules, zero_at)

pub eight_before : (at k : ℕ) (rows lanes : List ℕ) → 8 ≤ at → lanes ≡ chunk (at - 8) 8 rows → k < 8 → get_or lanes k 0 ≡ row_at rows (pos (at + k) -ℤ pos 8)
unfolding row_at
eight_before at k rows lanes some lanes_are below = search (rules, (loaded (at - 8) k rows lanes lanes_are below))

-- eight rows moved by columns
pub lane_near : (dx dy : ℤ) (at : ℕ) (rows lanes moved : List ℕ) → ((k : ℕ) → k < 8 → get_or lanes k 0 ≡ row_at rows (pos (at + k) -ℤ dy)) → length lanes ≡ 8 → moved ≡ map (moved_row dx) lanes → (k : ℕ) → k < 8 →
    get_or moved k 0 ≡ moved_row dx (row_at rows (pos (at + k) -ℤ dy))
lane_near dx dy at rows lanes moved lanes_are eight moved_is k below = search (rules, get_or-map)
