-- Rows taken eight at a time: what a load, an operator and a store do to each row.
use Rattle.std.proofs.Common.{◌≡◌, ℕ, zero, suc, ◌+◌, ◌-◌, ◌*◌, ◌/◌, ◌%◌, ◌^◌, ◌<◌, ◌≤◌, ◌↔◌, Bool, false, not, cond, eqb, map, w16, count_ones, sum_by, replicate, List, [], ◌∷◌, ◌++◌, length, get_or, refl, ap, ap₂, ◌∙◌, sym, inl, inr, arith, rules}
use Rattle.std.specs.Simd.Lanes.{chunk, put_chunk, zip2, mask_l, top, fold_l, pick_l}
use Rattle.std.specs.List.{range_with_len}
use Rattle.std.proofs.lemmas.List.{get_or_past, get_or-map, get_or_append_left, get_or-append_right, length-append}
use Rattle.std.proofs.lemmas.List.Sums.{sum_by-cons}
use Rattle.std.proofs.lemmas.Nat.{ones-le}
use Rattle.std.proofs.lemmas.Bool.{cases_lt, cases_Bool, eqb-true, eq-eqb, not_from_true, not-false}
use Rattle.std.proofs.lemmas.Nat.Bits.{bit_at-zero}
use Rattle.std.proofs.lemmas.Simd.{pick_l-range_with_len, get_or-chunk, get_or-put_chunk_below, get_or-put_chunk_at, get_or-zip2, length-zip2, bit_mask_l, mask_l-mod, tops_compared, bitmask_splat}
use Rattle.lane_board.specs.Lanes.{has_bit}

-- an operator with what another makes of the same lanes
pub zip2_first : {X : Type 0} (f g : X → X → X) (xs ys : List X) → zip2 f xs (zip2 g xs ys) ≡ zip2 (λ x y. f x (g x y)) xs ys
zip2_first f g [] ys = refl
zip2_first f g (x ∷ xs) [] = refl
zip2_first f g (x ∷ xs) (y ∷ ys) = ap (λ l. f x (g x y) ∷ l) (zip2_first f g xs ys)

-- the rows below at + 8, after eight more are written
pub written_more : (of_row : ℕ → ℕ) (at next : ℕ) (rows lanes written : List ℕ) → next ≡ at + 8 → at + 8 ≤ length rows → length lanes ≡ 8 → written ≡ put_chunk at rows lanes →
    ((k : ℕ) → k < 8 → get_or lanes k 0 ≡ of_row (at + k)) → ((y : ℕ) → y < at → get_or rows y 0 ≡ of_row y) →
    (y : ℕ) → y < next → get_or written y 0 ≡ of_row y
written_more of_row at next rows lanes written next_is within eight written_is new before y below =
    search (rules, cases_lt, get_or-put_chunk_below, get_or-put_chunk_at)

-- row k of eight rows that are loaded from row `at` on
pub loaded : (at k : ℕ) (rows lanes : List ℕ) → lanes ≡ chunk at 8 rows → k < 8 → get_or lanes k 0 ≡ get_or rows (at + k) 0
loaded at k rows lanes are below = ap (λ l. get_or l k 0) are ∙ get_or-chunk at 8 rows k 0 below

-- eight rows combined
pub combined_lanes : (f : ℕ → ℕ → ℕ) (at : ℕ) (xs ys left right lanes : List ℕ) → left ≡ chunk at 8 xs → length left ≡ 8 → right ≡ chunk at 8 ys → length right ≡ 8 → lanes ≡ zip2 f left right →
    (length lanes ≡ 8) × ((k : ℕ) → k < 8 → get_or lanes k 0 ≡ f (get_or xs (at + k) 0) (get_or ys (at + k) 0))
combined_lanes f at xs ys left right lanes left_is eight_left right_is eight_right lanes_are = (
  ap length lanes_are ∙ length-zip2 f left right (eight_left ∙ sym eight_right) ∙ eight_left,
  λ k below.
      ap (λ l. get_or l k 0) lanes_are
      ∙ get_or-zip2 f left right k 0 0 0 (omega arith) (omega arith)
      ∙ ap₂ f (loaded at k xs left left_is below) (loaded at k ys right right_is below),
)

-- what a lane adds to a mask
abbrev lane_value : Bool → ℕ
lane_value b = cond b 1 zero

-- a mask is 0 where no lane is set, and only there
none_set : (ms : List Bool) → mask_l ms ≡ 0 → (i : ℕ) → get_or ms i false ≡ false
none_set ms none i = search (rules, (cases_Bool (get_or ms i false)), (bit_mask_l ms i), (bit_at-zero i))

mask_none : (ms : List Bool) → ((i : ℕ) → get_or ms i false ≡ false) → mask_l ms ≡ 0
mask_none [] unset = refl
mask_none (m ∷ ms) unset = omega (arith, ap lane_value (unset 0), mask_none ms (λ i. unset (suc i)))

abbrev pub differ : ℕ → ℕ → Bool
differ a b = not (eqb a b)

-- the mask of eight rows that are compared with eight others is 0 exactly where they agree
pub agree_by_mask : (at : ℕ) (xs ys left right : List ℕ) →
    left ≡ chunk at 8 xs → length left ≡ 8 → right ≡ chunk at 8 ys → length right ≡ 8 →
    (mask_l (map (top 15) (zip2 (λ a b. cond (differ a b) (2 ^ 16 - 1) 0) left right)) % 2 ^ 64 ≡ 0)
    ↔ ((y : ℕ) → at ≤ y → y < at + 8 → get_or xs y 0 ≡ get_or ys y 0)
agree_by_mask at xs ys left right left_is eight_left right_is eight_right = (there, back)
  where
    long : length (zip2 differ left right) ≡ 8
    long = length-zip2 differ left right (eight_left ∙ sym eight_right) ∙ eight_left

    mask_is : mask_l (map (top 15) (zip2 (λ a b. cond (differ a b) (2 ^ 16 - 1) 0) left right)) % 2 ^ 64 ≡ mask_l (zip2 differ left right)
    mask_is = ap (λ ms. mask_l ms % 2 ^ 64) (tops_compared w16 differ left right) ∙ mask_l-mod (zip2 differ left right) 64 (omega (arith, long))

    lane : (k : ℕ) → k < 8 → get_or (zip2 differ left right) k false ≡ differ (get_or left k 0) (get_or right k 0)
    lane k below = get_or-zip2 differ left right k 0 0 false (omega (arith, eight_left)) (omega (arith, eight_right))

    there : mask_l (map (top 15) (zip2 (λ a b. cond (differ a b) (2 ^ 16 - 1) 0) left right)) % 2 ^ 64 ≡ 0 → (y : ℕ) → at ≤ y → y < at + 8 → get_or xs y 0 ≡ get_or ys y 0
    there none y from below =
        ap (λ k. get_or xs k 0) {y = at + (y - at)} (omega arith)
        ∙ sym (loaded at (y - at) xs left left_is (omega arith))
        ∙ eqb-true _ _ (not-false _ (sym (lane (y - at) (omega arith)) ∙ none_set _ (sym mask_is ∙ none) (y - at)))
        ∙ loaded at (y - at) ys right right_is (omega arith)
        ∙ ap (λ k. get_or ys k 0) {y = y} (omega arith)

    back : ((y : ℕ) → at ≤ y → y < at + 8 → get_or xs y 0 ≡ get_or ys y 0) → mask_l (map (top 15) (zip2 (λ a b. cond (differ a b) (2 ^ 16 - 1) 0) left right)) % 2 ^ 64 ≡ 0
    back same = mask_is ∙ mask_none _ (λ k. elim (cases_lt k 8) [
      | inl below ↦
          lane k below
          ∙ not_from_true _ (eq-eqb _ _ (loaded at k xs left left_is below ∙ same (at + k) (omega arith) (omega arith) ∙ sym (loaded at k ys right right_is below)))
      | inr above ↦ get_or_past (zip2 differ left right) k false (omega (arith, long))
    ])

-- the mask of a comparison with a full row has the rows that are full
pub full_by_mask : (at full k : ℕ) (rows lanes : List ℕ) → lanes ≡ chunk at 8 rows → length lanes ≡ 8 → k < 8 →
    has_bit (mask_l (map (top 15) (zip2 (λ a b. cond (eqb a b) (2 ^ 16 - 1) 0) lanes (replicate 8 full))) % 2 ^ 64) k ≡ eqb (get_or rows (at + k) 0) full
unfolding has_bit
full_by_mask at full k rows lanes lanes_are eight below =
    ap (λ mask. eqb (mask / 2 ^ k % 2) 1) (bitmask_splat w16 eqb lanes 8 full eight (omega arith))
    ∙ ap (λ bit. eqb bit 1) (bit_mask_l (map (λ x. eqb x full) lanes) k)
    ∙ bit_of (get_or (map (λ x. eqb x full) lanes) k false)
    ∙ get_or-map (λ x. eqb x full) lanes k 0 false (omega (arith, eight))
    ∙ ap (λ l. eqb (get_or l k 0) full) lanes_are
    ∙ ap (λ row. eqb row full) (get_or-chunk at 8 rows k 0 below)
  where
    bit_of : (b : Bool) → eqb (cond b 1 0) 1 ≡ b
    bit_of b = search rules

-- eight lanes are few enough that the sum of their counts does not wrap
fold_ones : (a : ℕ) (xs : List ℕ) → ((k : ℕ) → get_or xs k 0 < 2 ^ 16) → a + 16 * length xs < 2 ^ 16 →
    fold_l (λ s x. (s + x) % 2 ^ 16) a (map (λ (n : ℕ). n) (map count_ones xs)) ≡ a + sum_by count_ones xs
fold_ones a [] small few = omega arith
fold_ones a (x ∷ xs) small few =
    let few_ones = ones-le 16 x (small 0) in
    let next : (a + count_ones x) % 2 ^ 16 ≡ a + count_ones x = omega (arith, few_ones) in
    ap (λ s. fold_l (λ s x. (s + x) % 2 ^ 16) s (map (λ (n : ℕ). n) (map count_ones xs))) next
    ∙ fold_ones (a + count_ones x) xs (λ k. small (suc k)) (omega (arith, few_ones))
    ∙ omega (arith, sum_by-cons count_ones x xs)

loaded_small : (at k : ℕ) (rows lanes : List ℕ) → ((k : ℕ) → get_or rows k 0 < 2 ^ 16) → lanes ≡ chunk at 8 rows → length lanes ≡ 8 → get_or lanes k 0 < 2 ^ 16
loaded_small at k rows lanes small lanes_are eight = elim (cases_lt k 8) [
  | inl below ↦ omega (arith, ap (λ l. get_or l k 0) lanes_are, get_or-chunk at 8 rows k 0 below, small (at + k))
  | inr above ↦ omega (arith, get_or_past lanes k 0 (omega (arith, eight)))
]

pub count_lanes : (at : ℕ) (rows lanes : List ℕ) → ((k : ℕ) → get_or rows k 0 < 2 ^ 16) → lanes ≡ chunk at 8 rows → length lanes ≡ 8 →
    fold_l (λ s x. (s + x) % 2 ^ 16) 0 (map (λ (n : ℕ). n) (map count_ones lanes)) ≡ sum_by count_ones (chunk at 8 rows)
count_lanes at rows lanes small lanes_are eight = search (rules, fold_ones, loaded_small)

-- eight of sixteen rows
pub eight_of : (from n : ℕ) (low high result : List ℕ) → length low ≡ 8 → length high ≡ 8 → n ≤ 8 → result ≡ pick_l 0 (low ++ high) (range_with_len n 8) → from ≡ n → (k : ℕ) → k < 8 → get_or result k 0 ≡ get_or (low ++ high) (from + k) 0
eight_of from n low high result is_low is_high small is e k below =
    loaded n k (low ++ high) result (is ∙ pick_l-range_with_len 0 (low ++ high) n 8 (omega (arith, length-append low high))) below ∙ ap (λ m. get_or (low ++ high) (m + k) 0) (sym e)

pub low_eight : (from : ℕ) (low high result : List ℕ) → length low ≡ 8 → result ≡ low → from ≡ 0 → (k : ℕ) → k < 8 → get_or result k 0 ≡ get_or (low ++ high) (from + k) 0
low_eight from low high result is_low is e k below = search (rules, get_or_append_left)

pub high_eight : (from : ℕ) (low high result : List ℕ) → length low ≡ 8 → result ≡ high → from ≡ 8 → (k : ℕ) → k < 8 → get_or result k 0 ≡ get_or (low ++ high) (from + k) 0
high_eight from low high result is_low is e k below = search (rules, get_or-append_right)
