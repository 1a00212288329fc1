-- The sky on a board of lanes has exactly the states under the sky.
use Rattle.std.proofs.Common.{◌≡◌, ◌↔◌, ℕ, ◌+◌, ◌-◌, ◌<◌, ◌≤◌, true, false, not, ◌&&◌, nat_lt, pos, ◌+ℤ◌, sym, ap, subst, ◌∙◌, inl, inr, arith, rules}
use Rattle.std.specs.Prelude.{◌<ℤ◌}
use Rattle.std.proofs.lemmas.Int.{ints}
use Rattle.std.proofs.lemmas.Bool.{and_parts, and_from, or_cases, or_left, or_right, cases_Bool, cases_lt, both_ways, not-true, ltb-true, lt-ltb, false_from_ne_true}
use Rattle.lane_board.specs.Field.{Field, union, difference, moved_within, rows_below}
use Rattle.srs.specs.declared.placement.Placement.{Placement}
use Rattle.srs.specs.Cells.{Cell, minus, moved}
use Rattle.srs.proofs.CallerLemmas.{less, pivot_inside}
use Rattle.well.specs.Free.{is_free_at}
use Rattle.well.specs.LockLaws.{LiesBelow}
use Rattle.place_sets.proofs.CallerLemmas.{LiesWithin, moved_from, moved_to}
use Rattle.moves.specs.Height.{fits_column}
use Rattle.moves.specs.Sky.{IsUnderSky}
use Rattle.moves.specs.Lanes.{lane}
use Rattle.low_flood.specs.SkyBoard.{with_lower, inside_lanes, IsLaneMap, sky_board}
use Rattle.moves.proofs.CallerLemmas.{free_fits, sky_free, near, sky_from}

-- R has the states of N lanes that have a cell of B fewer than n rows above them
record Found (B : Field) (n x y : ℕ) : Type 0 where
  j : ℕ
  near_by : j < n
  filled : B x (y + j) ≡ true

pub record IsSmear (N n : ℕ) (B R : Field) : Type 0 where
  from : (x y : ℕ) → R x y ≡ true → Found B n x y
  to : (x y j : ℕ) → j < n → B x (y + j) ≡ true → R x y ≡ true

same_cell : (B : Field) (x a b : ℕ) → a ≡ b → B x a ≡ true → B x b ≡ true
same_cell B x a b e = subst (λ (y : ℕ). B x y ≡ true) e

smear_none : (N : ℕ) (B : Field) → IsSmear N 1 B B
smear_none N B = search (rules, same_cell)

smear_twice : (N n : ℕ) (B R : Field) → LiesWithin B N → IsSmear N n B R → IsSmear N (n + n) B (with_lower N n R)
unfolding with_lower union moved
smear_twice N n B R lies smear = record { from = from; to = to }
  where
    from : (x y : ℕ) → with_lower N n R x y ≡ true → Found B (n + n) x y
    from x y filled = elim (or_cases (R x y) (moved_within R N (pos 0) (minus n) x y) filled) [
      | inl here ↦ let found = smear.from x y here in record { j = found.j; near_by = omega (arith, found.near_by); filled = found.filled }
      | inr lower ↦
          let way = moved_from R N (pos 0, minus n) x y lower in
          let column : pos way.from_x +ℤ pos 0 ≡ pos x = ap (λ (c : Cell). c.0) way.there in
          let row : pos way.from_y +ℤ minus n ≡ pos y = ap (λ (c : Cell). c.1) way.there in
          let a : way.from_x ≡ x = omega (arith, ints) in
          let b : way.from_y ≡ y + n = omega (arith, ints) in
          let found = smear.from way.from_x way.from_y way.filled in
          record {
            j = n + found.j;
            near_by = omega (arith, found.near_by);
            filled = same_cell B x (way.from_y + found.j) (y + (n + found.j)) (omega arith) (subst (λ (x : ℕ). B x (way.from_y + found.j) ≡ true) a found.filled);
          }
    ]

    to : (x y j : ℕ) → j < n + n → B x (y + j) ≡ true → with_lower N n R x y ≡ true
    to x y j within filled = elim (cases_lt j n) [
      | inl less ↦ or_left (R x y) (moved_within R N (pos 0) (minus n) x y) (smear.to x y j less filled)
      | inr more ↦
          let bounds = lies.inside x (y + j) filled in
          let here : R x (y + n) ≡ true = smear.to x (y + n) (j - n) (omega arith) (same_cell B x (y + j) ((y + n) + (j - n)) (omega arith) filled) in
          let column : pos x +ℤ pos 0 ≡ pos x = omega (arith, ints) in
          let row : pos (y + n) +ℤ minus n ≡ pos y = omega (arith, ints) in
          or_right (R x y) (moved_within R N (pos 0) (minus n) x y) (moved_to R N (pos 0, minus n) x (y + n) x y here (λ i. (column i, row i)) bounds.0 (omega (arith, bounds.1)))
    ]

-- the board of a rotation, at the states of that rotation
module _ (F : Field) (r N : ℕ) (clear : LiesBelow F r) (over : r ≤ N) (few : N ≤ 16) (s : Placement) (y : ℕ) (at : lane s ≡ pos y) (free : Field) (is : IsLaneMap F s.piece s.rotation N free) where
  at_lane : (j : ℕ) → y + j < N → free s.x (y + j) ≡ is_free_at F s.piece s.rotation (pos s.x, pos (s.y + j))
  at_lane j below = search rules

  blocked : Field
  blocked = difference (inside_lanes s.piece s.rotation N) free

  lies : LiesWithin blocked N
  unfolding blocked difference inside_lanes rows_below
  lies = search (rules, and_parts, nat_lt, ltb-true)

  smear : IsSmear N 16 blocked (with_lower N 8 (with_lower N 4 (with_lower N 2 (with_lower N 1 blocked))))
  smear =
      search (rules, (smear_twice N 8 blocked (with_lower N 4 (with_lower N 2 (with_lower N 1 blocked))) lies (smear_twice N 4 blocked (with_lower N 2 (with_lower N 1 blocked)) lies (smear_twice N 2 blocked (with_lower N 1 blocked) lies (smear_twice N 1 blocked blocked lies (smear_none N blocked))))))

  -- an inside lane state is blocked or free
  inside_at : (b : ℕ) → b < N → s.x < 10 → fits_column s.piece s.rotation (pos s.x) ≡ true → inside_lanes s.piece s.rotation N s.x b ≡ true
  unfolding inside_lanes rows_below
  inside_at b below column fits = and_from _ _ (and_from _ _ (lt-ltb s.x 10 column) (lt-ltb b N below)) fits

  is_inside : (b : ℕ) → inside_lanes s.piece s.rotation N s.x b ≡ true → (s.x < 10) × (b < N) × (fits_column s.piece s.rotation (pos s.x) ≡ true)
  unfolding inside_lanes rows_below
  is_inside b inside =
      let rows = and_parts (nat_lt s.x 10 && nat_lt b N) (fits_column s.piece s.rotation (pos s.x)) inside in
      let cell = and_parts (nat_lt s.x 10) (nat_lt b N) rows.0 in
      (ltb-true s.x 10 cell.0, ltb-true b N cell.1, rows.1)

  there : sky_board s.piece s.rotation N free s.x y ≡ true → IsUnderSky F s
  unfolding sky_board difference blocked
  there held = sky_from F r clear s (subst (λ (b : ℕ). is_free_at F s.piece s.rotation (pos s.x, pos b) ≡ true) none (free_up 0 here)) free_to
    where
      parts : (inside_lanes s.piece s.rotation N s.x y ≡ true) × (not (with_lower N 8 (with_lower N 4 (with_lower N 2 (with_lower N 1 blocked))) s.x y) ≡ true)
      parts = and_parts (inside_lanes s.piece s.rotation N s.x y) _ held

      bounds : (s.x < 10) × (y < N) × (fits_column s.piece s.rotation (pos s.x) ≡ true)
      bounds = is_inside y parts.0

      none : s.y + 0 ≡ s.y
      none = omega arith

      here : y + 0 < N
      here = let below = bounds.1 in omega arith

      free_up : (j : ℕ) → y + j < N → is_free_at F s.piece s.rotation (pos s.x, pos (s.y + j)) ≡ true
      free_up j below = elim (cases_Bool (free s.x (y + j))) [
        | inl open_there ↦ sym (at_lane j below) ∙ open_there
        | inr shut ↦
            absurd (both_ways _ (not-true _ parts.1)
            (smear.to s.x y j (omega arith) (and_from (inside_lanes s.piece s.rotation N s.x (y + j)) (not (free s.x (y + j))) (inside_at (y + j) below bounds.0 bounds.2) (ap not shut))))
      ]

      free_to : (j : ℕ) → (lane s +ℤ pos j) <ℤ pos r → is_free_at F s.piece s.rotation (pos s.x, pos (s.y + j)) ≡ true
      free_to j low = free_up j (omega (arith, ints))

  back : y < N → IsUnderSky F s → sky_board s.piece s.rotation N free s.x y ≡ true
  unfolding sky_board difference blocked
  back below sky = and_from _ _ (inside_at y below column fits) (ap not clear_above)
    where
      free_up : (j : ℕ) → y + j < N → is_free_at F s.piece s.rotation (pos s.x, pos (s.y + j)) ≡ true
      free_up j low = let by = near s in sky_free F s sky j (omega (arith, ints, by.low))

      here : is_free_at F s.piece s.rotation (pos s.x, pos (s.y + 0)) ≡ true
      here = free_up 0 (omega arith)

      fits : fits_column s.piece s.rotation (pos s.x) ≡ true
      fits = free_fits F s.piece s.rotation (pos s.x, pos (s.y + 0)) here

      column : s.x < 10
      column = let pivot = pivot_inside s sky.inside in omega (arith, pivot.in_columns)

      clear_above : with_lower N 8 (with_lower N 4 (with_lower N 2 (with_lower N 1 blocked))) s.x y ≡ false
      clear_above = false_from_ne_true _ (λ filled.
          let found = smear.from s.x y filled in
          let parts = and_parts (inside_lanes s.piece s.rotation N s.x (y + found.j)) (not (free s.x (y + found.j))) found.filled in
          let low = (is_inside (y + found.j) parts.0).1 in
          both_ways _ (not-true _ parts.1) (at_lane found.j low ∙ free_up found.j low))

  pub sky_board-exact : y < N → (sky_board s.piece s.rotation N free s.x y ≡ true) ↔ IsUnderSky F s
  sky_board-exact below = (there, back below)
