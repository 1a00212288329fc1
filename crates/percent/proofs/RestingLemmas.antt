-- What a placement that rests has: each row between two of its cells, a cell that stands on something, and with hard drop nothing above it.
use Rattle.std.proofs.Common.{◌≡◌, ℕ, zero, suc, ◌<◌, ◌≤◌, Bool, true, false, not, ◌||◌, ℤ, pos, negsuc, ◌+ℤ◌, ◌-ℤ◌, List, [], ◌∷◌, get_or, refl, sym, ap, subst, ◌∙◌, inl, inr, arith}
use Rattle.std.specs.Prelude.{int_lt}
use Rattle.std.specs.List.{list_all, list_any}
use Rattle.std.proofs.lemmas.Bool.{and_cases, cases_eq, or_right, true≢false, lt-ltb, not-false}
use Rattle.std.proofs.lemmas.Int.{ints}
use Rattle.lane_board.specs.Field.{Field}
use Rattle.srs.specs.declared.piece.Piece.{Piece}
use Rattle.srs.specs.declared.rotation.Rotation.{Rotation}
use Rattle.srs.specs.declared.placement.Placement.{Placement}
use Rattle.srs.specs.Cells.{Cell, cells_of, minus, moved, pivot_of, shape}
use Rattle.srs.specs.Kick.{Table, srs_table}
use Rattle.srs.specs.SameCells.{is_among}
use Rattle.srs.proofs.CallerLemmas.{each_state, has_cell-head, implied, in_well-place, inside_cell, is_among-all, some_passes}
use Rattle.well.specs.Free.{is_free, is_free_at, is_open}
use Rattle.well.proofs.CallerLemmas.{free_inside, open_at}
use Rattle.well.specs.LockLaws.{LiesBelow}
use Rattle.moves.specs.declared.key.DropMode.{DropMode}
use Rattle.moves.specs.declared.key.DropMode.TheVariants.{Hard, Soft}
use Rattle.moves.specs.Place.{IsPlace}
use Rattle.moves.specs.Rest.{lowered}
use Rattle.moves.specs.RestingStates.{IsResting}
use Rattle.moves.proofs.CallerLemmas.{hard_places, soft_allows, soft_places}
use Rattle.empty_cells.proofs.CallerLemmas.{sent_from, sent_has}

-- ---- each row between two cells of a placement has one

-- the row above a cell has a cell where some row above it has
row_follows : Piece → Rotation → Cell → Cell → Bool
row_follows piece rotation c d = not (int_lt c.1 d.1) || list_any (λ x. is_among (shape piece rotation) (x, c.1 +ℤ pos 1)) (minus 2 ∷ minus 1 ∷ pos 0 ∷ pos 1 ∷ pos 2 ∷ [])

rows_follow : (piece : Piece) (rotation : Rotation) → list_all (λ c. list_all (row_follows piece rotation c) (shape piece rotation)) (shape piece rotation) ≡ true
unfolding row_follows is_among
rows_follow = each_state (λ p r. list_all (λ c. list_all (row_follows p r c) (shape p r)) (shape p r)) refl

-- a cell of a placement in a row
abbrev pub InRow : Placement → ℕ → Type 0
InRow q y = (x : ℕ) × (is_among (cells_of q) (pos x, pos y) ≡ true)

less_from_rows : (a b : ℤ) (k y v : ℕ) → pos k +ℤ a ≡ pos y → pos k +ℤ b ≡ pos v → y < v → int_lt a b ≡ true
less_from_rows (pos a) (pos b) k y v at_a at_b lower = lt-ltb a b (omega (arith, ints, at_a, at_b, lower))
less_from_rows (pos a) (negsuc b) k y v at_a at_b lower = absurd (omega (arith, ints, at_a, at_b, lower))
less_from_rows (negsuc a) (pos b) k y v at_a at_b lower = refl
less_from_rows (negsuc a) (negsuc b) k y v at_a at_b lower = lt-ltb b a (omega (arith, ints, at_a, at_b, lower))

next_row : (q : Placement) (F : Field) (y v : ℕ) → is_free F q ≡ true → InRow q y → InRow q v → y < v → InRow q (suc y)
unfolding row_follows moved
next_row q F y v free low high lower =
    let s = shape q.piece q.rotation in
    let c = sent_from (moved (pivot_of q)) s (pos low.0, pos y) low.1 in
    let d = sent_from (moved (pivot_of q)) s (pos high.0, pos v) high.1 in
    let at_c : pos q.y +ℤ c.0.1 ≡ pos y = ap (λ (c : Cell). c.1) c.2 in
    let at_d : pos q.y +ℤ d.0.1 ≡ pos v = ap (λ (c : Cell). c.1) d.2 in
    let under : int_lt c.0.1 d.0.1 ≡ true = less_from_rows c.0.1 d.0.1 q.y y v at_c at_d lower in
    let some = some_passes (λ x. is_among s (x, c.0.1 +ℤ pos 1)) (minus 2 ∷ minus 1 ∷ pos 0 ∷ pos 1 ∷ pos 2 ∷ [])
    (implied (int_lt c.0.1 d.0.1) _ under
    (is_among-all (row_follows q.piece q.rotation c.0) s d.0 (is_among-all (λ c. list_all (row_follows q.piece q.rotation c) s) s c.0 (rows_follow q.piece q.rotation) c.1) d.1)) in
    let lies = in_well-place _ (inside_cell q (some.0, c.0.1 +ℤ pos 1) (free_inside F q free) some.2) in
    let row : pos q.y +ℤ (c.0.1 +ℤ pos 1) ≡ pos lies.y = ap (λ (c : Cell). c.1) lies.is in
    let up : lies.y ≡ suc y = omega (arith, ints) in
    (lies.x, subst (λ c. is_among (cells_of q) c ≡ true) (lies.is ∙ (λ i. (pos lies.x, pos (up i)))) (sent_has (moved (pivot_of q)) s (some.0, c.0.1 +ℤ pos 1) some.2))

pub row_between : (q : Placement) (F : Field) (y z v : ℕ) → is_free F q ≡ true → InRow q y → InRow q v → y < z → z < v → InRow q z
row_between q F y zero v free low high above under = absurd (omega arith)
row_between q F y (suc z) v free low high above under = elim (cases_eq z y) [
  | inl same ↦ subst (λ z. InRow q (suc z)) (sym same) (next_row q F y v free low high (omega arith))
  | inr apart ↦ next_row q F z v free (row_between q F y z v free low high (omega (arith, above, apart)) (omega (arith, under))) high (omega (arith, under))
]

-- ---- a resting placement stands on the floor or on a filled cell

pub record StandsOn (F : Field) (q : Placement) : Type 0 where
  pub x : ℕ
  pub y : ℕ
  pub has : is_among (cells_of q) (pos x, pos y) ≡ true
  pub filled : (z : ℕ) → y ≡ suc z → F x z ≡ true

one_fails : (test : Cell → Bool) (cells : List Cell) → list_all test cells ≡ false → (c : Cell) × (is_among cells c ≡ true) × (test c ≡ false)
unfolding is_among
one_fails test [] fails = absurd (true≢false fails)
one_fails test (c ∷ cells) fails = elim (and_cases (test c) (list_all test cells) fails) [
  | inl here ↦ (c, has_cell-head c cells, here)
  | inr later ↦ let found = one_fails test cells later in (found.0, or_right _ _ found.1, found.2)
]

stands : (F : Field) (s q : Placement) → IsResting F s → ((c : Cell) → is_among (cells_of s) c ≡ is_among (cells_of q) c) → StandsOn F q
unfolding is_free_at moved
stands F s q rests same =
    let t = shape s.piece s.rotation in
    let found = one_fails (is_open F) _ rests.blocked in
    let d = sent_from (moved (lowered s 1)) t found.0 found.1 in
    let lies = in_well-place _ (inside_cell s d.0 (free_inside F s rests.free) d.1) in
    record {
      x = lies.x;
      y = lies.y;
      has = sym (same (pos lies.x, pos lies.y)) ∙ subst (λ c. is_among (cells_of s) c ≡ true) lies.is (sent_has (moved (pivot_of s)) t d.0 d.1);
      filled = λ z up.
          let column : pos s.x +ℤ d.0.0 ≡ pos lies.x = ap (λ (c : Cell). c.0) lies.is in
          let row : pos s.y +ℤ d.0.1 ≡ pos lies.y = ap (λ (c : Cell). c.1) lies.is in
          let down : (pos s.y -ℤ pos 1) +ℤ d.0.1 ≡ pos z = omega (arith, ints) in
          let near = lies.in_columns in
          let low = lies.in_rows in
          not-false (F lies.x z) (open_at F found.0 lies.x z (sym d.2 ∙ (λ i. (column i, down i))) near (omega arith) ∙ found.2);
    }

pub place-stands : (table : Table) (F : Field) (mode : DropMode) (q : Placement) → IsPlace table F mode q → StandsOn F q
place-stands table F mode q place =
    let way = place.led_to in
    let soft : IsPlace table F Soft q = record {
      canonical = place.canonical;
      keys = place.keys;
      led_to = record { allowed = λ k d within. soft_allows (get_or place.keys k d); state = way.state; reached = way.reached; rest = way.rest; rests = way.rests; same_cells = way.same_cells };
    } in
    let at = (soft_places table F q).0 soft in
    stands F at.state q at.rests at.same_cells.same

-- ---- with hard drop nothing lies above a placement

pub sky-clear : (F : Field) (height : ℕ) (q : Placement) → height ≤ 18 → ((x y : ℕ) → height ≤ y → F x y ≡ false) → IsPlace srs_table F Hard q → (x y k : ℕ) → is_among (cells_of q) (pos x, pos y) ≡ true → y ≤ k → F x k ≡ false
sky-clear F height q low none place x y k has above =
    let clear : LiesBelow F height = record { none = none } in
    let at = (hard_places F height q clear low).0 place in
    at.holds.clear x y k (at.same_cells.same (pos x, pos y) ∙ has) above
