-- Each state under an open sky is reached: at the spawn's height by turns and moves sideways, and from there down.
use Rattle.std.proofs.Common.{◌≡◌, ℕ, zero, suc, ◌+◌, ◌-◌, ◌<◌, ◌≤◌, true, ℤ, pos, ◌+ℤ◌, ◌-ℤ◌, ◌≤ℤ◌, Some, ◌++◌, refl, ap, subst, ◌∙◌, arith, rules}
use Rattle.std.specs.Prelude.{IsTrue, int_le}
use Rattle.std.proofs.lemmas.Int.{ints}
use Rattle.std.proofs.lemmas.Bool.{and_parts, cond-true, false≢true, eqb-true}
use Rattle.std.proofs.lemmas.List.Folds.{list_all-map}
use Rattle.std.proofs.lemmas.List.Sums.{fold-append}
use Rattle.lane_board.specs.Field.{Field}
use Rattle.srs.specs.declared.piece.Piece.{Piece}
use Rattle.srs.specs.declared.rotation.Rotation.{Rotation}
use Rattle.srs.specs.declared.rotation.Rotation.TheVariants as Rotations
use Rattle.srs.specs.declared.placement.Placement.{Placement}
use Rattle.srs.specs.Cells.{Cell, minus, moved, shape, cells_of, pivot_of}
use Rattle.srs.specs.SameCells.{is_among}
use Rattle.srs.specs.Kick.{Table, srs_table}
use Rattle.srs.proofs.CallerLemmas.{is_among-moved, is_among-all, list_all-from_is_among, each_piece, rotation_index-injective, in_well-place, inside_cell, pivot_inside, int_le-true, less-moved}
use Rattle.std.specs.Cmp.{signed_Decides}
use Rattle.std.specs.Ordering.{int_eq}
use Rattle.well.specs.Free.{is_open, is_free_at, is_free}
use Rattle.well.proofs.CallerLemmas.{open_at}
use Rattle.well.specs.LockLaws.{LiesBelow}
use Rattle.moves.specs.declared.key.Key.{Key}
use Rattle.moves.specs.declared.key.Key.TheVariants.{Down}
use Rattle.moves.specs.declared.key.DropMode.TheVariants.{Soft}
use Rattle.moves.specs.Keys.{allows}
use Rattle.moves.specs.Step.{first_free, shifted, step_of}
use Rattle.moves.specs.Leads.{spawn_of, spawned, state_after}
use Rattle.moves.specs.Walk.{led}
use Rattle.moves.specs.Height.{rise, upright, fits_column}
use Rattle.moves.specs.OpenKeys.{open_led, path, repeated}
use Rattle.moves.specs.Sky.{IsUnderSky}
use Rattle.moves.specs.RestingStates.{IsKeyed}
use Rattle.moves.proofs.TableFacts.{is_level, shape_level, paths_lead}
use Rattle.moves.proofs.OpenLemmas.{IsOpenHeight, open_height, open_free, free_fits, open_leads}

-- the path leads where the piece fits
path_is : (piece : Piece) (rotation : Rotation) (x : ℕ) → x < 10 → fits_column piece rotation (pos x) ≡ true → open_led piece (Some (Rotations.Spawn, 4)) (path piece rotation x) ≡ Some (rotation, x)
path_is piece rotation x within fits = search (rules, (paths_lead piece rotation x within), false≢true, and_parts, rotation_index-injective, eqb-true)

pub rise_spawn : (piece : Piece) → rise piece Rotations.Spawn ≡ pos 0
rise_spawn piece = (signed_Decides (rise piece Rotations.Spawn) (pos 0)).0 (each_piece (λ p. int_eq (rise p Rotations.Spawn) (pos 0)) refl piece)

pub spawn_fits : (piece : Piece) → fits_column piece Rotations.Spawn (pos 4) ≡ true
spawn_fits = each_piece (λ p. fits_column p Rotations.Spawn (pos 4)) refl

-- at the spawn's height each rotation and column that fits is reached with keys
pub record IsHigh (F : Field) (piece : Piece) (rotation : Rotation) (x : ℕ) : Type 0 where
  pub row : ℕ
  pub height : pos row +ℤ rise piece rotation ≡ pos 20
  pub leads_there : state_after srs_table F piece (path piece rotation x) ≡ Some (record { piece = piece; rotation = rotation; x = x; y = row })

pub high : (F : Field) (r : ℕ) → LiesBelow F r → r ≤ 18 → (piece : Piece) (rotation : Rotation) (x : ℕ) → x < 10 → fits_column piece rotation (pos x) ≡ true → IsHigh F piece rotation x
unfolding spawned state_after
high F r clear low piece rotation x within fits =
    let room : IsOpenHeight piece r 20 = open_height piece r 20 (omega arith) (omega arith) in
    let start : pos 20 +ℤ rise piece Rotations.Spawn ≡ pos 20 = ap (λ (z : ℤ). pos 20 +ℤ z) (rise_spawn piece) in
    let spawn_free : is_free F (spawn_of piece) ≡ true = open_free F r clear 20 piece room Rotations.Spawn (pos 4, pos 20) start (spawn_fits piece) in
    let goes = open_leads F r clear 20 piece room (path piece rotation x) Rotations.Spawn 4 20 (rotation, x) start (path_is piece rotation x within fits) in
    search (rules, cond-true)

-- a piece that is free at each row on the way falls
module _ (table : Table) (F : Field) (piece : Piece) (rotation : Rotation) (x : ℕ) where
  abbrev pub at_row : ℕ → Placement
  at_row y = record { piece = piece; rotation = rotation; x = x; y = y }

  pub down_step : (y : ℕ) → is_free_at F piece rotation (pos x, pos y) ≡ true → step_of table F (at_row (suc y)) Down ≡ Some (at_row y)
  unfolding shifted first_free moved
  down_step y free = search (rules, cond-true)

  pub falls : (y k : ℕ) → ((j : ℕ) → j ≤ k → is_free_at F piece rotation (pos x, pos (y + j)) ≡ true) →
      led (step_of table F) (Some (at_row (y + k))) (repeated Down k) ≡ Some (at_row y)
  falls y zero free = let same : y + 0 ≡ y = omega arith in ap (λ (y : ℕ). Some (at_row y)) same
  falls y (suc k) free = search (rules, (down_step (y + k)), (falls y k))

-- a state under the sky is free, and so is what lies above it, up to the spawn's height
module _ (F : Field) (s : Placement) (sky : IsUnderSky F s) where
  above_open : (j : ℕ) → (upright s +ℤ pos j) ≤ℤ pos 20 → (c : Cell) → is_among (shape s.piece s.rotation) c ≡ true → is_open F (moved (pos s.x, pos (s.y + j)) c) ≡ true
  unfolding moved is_level
  above_open j low c has =
      let lies = in_well-place (moved (pivot_of s) c) (inside_cell s c sky.inside has) in
      let is_cell = is_among-moved (pivot_of s) (shape s.piece s.rotation) (moved (pivot_of s) c) ∙ ap (is_among (shape s.piece s.rotation)) (less-moved (pivot_of s) c) ∙ has in
      let clear = sky.clear lies.x lies.y (lies.y + j) (subst (λ (d : Cell). is_among (cells_of s) d ≡ true) lies.is is_cell) (omega arith) in
      let rows = and_parts (int_le (minus 2) (c.1 -ℤ rise s.piece s.rotation)) (int_le (c.1 -ℤ rise s.piece s.rotation) (pos 1)) (is_among-all (is_level s.piece s.rotation) (shape s.piece s.rotation) c (shape_level s.piece s.rotation) has) in
      let up = int_le-true (c.1 -ℤ rise s.piece s.rotation) (pos 1) rows.1 in
      search (rules, (open_at F (moved (pos s.x, pos (s.y + j)) c) lies.x (lies.y + j)))

  pub sky_free : (j : ℕ) → (upright s +ℤ pos j) ≤ℤ pos 20 → is_free_at F s.piece s.rotation (pos s.x, pos (s.y + j)) ≡ true
  unfolding is_free_at
  sky_free j low =
      list_all-map (is_open F) (moved (pos s.x, pos (s.y + j))) (shape s.piece s.rotation)
      ∙ list_all-from_is_among (λ c. is_open F (moved (pos s.x, pos (s.y + j)) c)) (shape s.piece s.rotation) (above_open j low)

pub soft_allows : (key : Key) → IsTrue (allows Soft key)
soft_allows key = search rules

pub sky_is_reached : (F : Field) (r : ℕ) (s : Placement) → LiesBelow F r → r ≤ 18 → IsUnderSky F s → upright s ≤ℤ pos 20 → IsKeyed srs_table F Soft s
unfolding state_after
sky_is_reached F r s clear low sky under =
    let here : (upright s +ℤ pos 0) ≤ℤ pos 20 = omega (arith, ints) in
    let fits = free_fits F s.piece s.rotation (pos s.x, pos (s.y + 0)) (sky_free F s sky 0 here) in
    let pivot = pivot_inside s sky.inside in
    let above = high F r clear low s.piece s.rotation s.x (omega (arith, pivot.in_columns)) fits in
    let height = above.height in
    let k = above.row - s.y in
    let row : above.row ≡ s.y + k = omega (arith, ints) in
    let fall = falls srs_table F s.piece s.rotation s.x s.y k (λ j within. sky_free F s sky j (omega (arith, ints))) in
    record {
      keys = path s.piece s.rotation s.x ++ repeated Down k;
      allowed = λ key d within. soft_allows d;
      leads_there = search (rules, fold-append);
    }
