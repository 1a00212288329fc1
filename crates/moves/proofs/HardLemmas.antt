-- Without Down the upright height does not change, so the places are the resting states under the sky.
use Rattle.std.proofs.Common.{◌≡◌, ℕ, suc, ◌+◌, ◌-◌, ◌<◌, ◌≤◌, true, false, not, ◌&&◌, ◌||◌, ℤ, pos, ◌+ℤ◌, ◌-ℤ◌, ◌≤ℤ◌, Option, Some, None, List, [], ◌∷◌, refl, sym, ap, subst, ◌∙◌, inl, inr, arith, rules}
use Rattle.std.specs.Prelude.{IsTrue, int_le}
use Rattle.std.specs.List.{list_all, All}
use Rattle.std.proofs.lemmas.Int.{ints}
use Rattle.std.proofs.lemmas.Bool.{and_parts, cases_Bool, cases_lt, cond-true, cond-false, false≢true, not-true}
use Rattle.std.proofs.lemmas.List.Folds.{list_all-map}
use Rattle.lane_board.specs.Field.{Field}
use Rattle.srs.specs.declared.piece.Piece.{Piece}
use Rattle.srs.specs.declared.rotation.Rotation.{Rotation}
use Rattle.srs.specs.declared.placement.Placement.{Placement}
use Rattle.srs.specs.Cells.{Cell, minus, moved, shape, cells_at, cells_of, pivot_of, in_well}
use Rattle.srs.specs.SameCells.{is_among}
use Rattle.srs.specs.Kick.{srs_table}
use Rattle.srs.proofs.CallerLemmas.{less, is_among-moved, is_among-all, list_all-from_is_among, in_well-place, inside_cell, each_state, some_same, int_le-true}
use Rattle.well.specs.Free.{is_open, is_free_at, is_free}
use Rattle.well.proofs.CallerLemmas.{open_at, free_inside, free_pivot, free_pivot_inside}
use Rattle.well.specs.LockLaws.{LiesBelow}
use Rattle.moves.specs.declared.key.Key.{Key}
use Rattle.moves.specs.declared.key.Key.TheVariants.{Left, Right, Down, Clockwise, Anti}
use Rattle.moves.specs.declared.key.DropMode.TheVariants.{Hard}
use Rattle.moves.specs.Keys.{allows}
use Rattle.moves.specs.Leads.{spawned, spawn_of, state_after}
use Rattle.moves.specs.Rest.{lowered}
use Rattle.moves.specs.Step.{first_free, shifted, step_of}
use Rattle.moves.specs.Walk.{led}
use Rattle.moves.proofs.StepLemmas.{step_of-free}
use Rattle.moves.proofs.WalkLemmas.{not_some, led_none}
use Rattle.moves.specs.Height.{rise, upright, fits_column}
use Rattle.moves.specs.OpenKeys.{Spot, open_key, is_some, path}
use Rattle.moves.specs.Sky.{IsUnderSky}
use Rattle.moves.proofs.TableFacts.{all_below, below_each, is_level, shape_level, turns_kept}
use Rattle.moves.specs.SkyLaws.{KeepsHeight}
use Rattle.moves.proofs.OpenLemmas.{open_height, IsOpenHeight, open_step, free_fits, natural}
use Rattle.moves.proofs.SkyLemmas.{high, rise_spawn, spawn_fits}
use Rattle.moves.proofs.AboveRest.{StandsAbove}

-- a state at an upright height that fits the columns
pub record StandsAt (h : ℕ) (piece : Piece) (s : Placement) : Type 0 where
  pub kind : s.piece ≡ piece
  pub height : upright s ≡ pos h
  pub fits : fits_column s.piece s.rotation (pos s.x) ≡ true
  pub column : s.x < 10

some_of : (o : Option Spot) → is_some o ≡ true → (spot : Spot) × (o ≡ Some spot)
some_of o e = search (rules, false≢true)

-- a move sideways keeps the row
shift_level : (F : Field) (s : Placement) (dx : ℤ) (t : Placement) → shifted F s (dx, pos 0) ≡ Some t → upright t ≡ upright s
unfolding shifted first_free moved
shift_level F s dx t e =
    search (rules, (cases_Bool (is_free_at F s.piece s.rotation (pos s.x +ℤ dx, pos s.y +ℤ pos 0))), free_pivot, some_same, cond-true, not_some, cond-false)

module _ (F : Field) (r : ℕ) (clear : LiesBelow F r) (h : ℕ) (piece : Piece) (room : IsOpenHeight piece r h) where
  turn_level : (s : Placement) (key : Key) (t : Placement) → StandsAt h piece s → is_some (open_key s.piece (s.rotation, s.x) key) ≡ true → step_of srs_table F s key ≡ Some t → upright t ≡ pos h
  turn_level s key t at some e =
      let spot = some_of (open_key s.piece (s.rotation, s.x) key) some in
      search (rules, (open_step F r clear h s.piece (subst (λ p. IsOpenHeight p r h) (sym at.kind) room) s.rotation s.x s.y key spot.0 at.height spot.1), some_same)

  both_turns : (s : Placement) → StandsAt h piece s → (is_some (open_key s.piece (s.rotation, s.x) Clockwise) && is_some (open_key s.piece (s.rotation, s.x) Anti)) ≡ true
  both_turns s at = subst (λ b. (not b || (is_some (open_key s.piece (s.rotation, s.x) Clockwise) && is_some (open_key s.piece (s.rotation, s.x) Anti))) ≡ true) at.fits (turns_kept s.piece s.rotation s.x at.column)

  key_level : (s : Placement) (key : Key) (t : Placement) → StandsAt h piece s → IsTrue (allows Hard key) → step_of srs_table F s key ≡ Some t → upright t ≡ pos h
  key_level s Left t at allowed e = shift_level F s (minus 1) t e ∙ at.height
  key_level s Right t at allowed e = shift_level F s (pos 1) t e ∙ at.height
  key_level s Down t at allowed e = absurd (false≢true allowed)
  key_level s Clockwise t at allowed e = turn_level s Clockwise t at (and_parts _ _ (both_turns s at)).0 e
  key_level s Anti t at allowed e = turn_level s Anti t at (and_parts _ _ (both_turns s at)).1 e

  -- without Down a step keeps the height
  pub stays_level : (s : Placement) (key : Key) (t : Placement) → StandsAt h piece s → IsTrue (allows Hard key) → step_of srs_table F s key ≡ Some t → StandsAt h piece t
  stays_level s key t at allowed e =
      search (rules, (step_of-free srs_table F s key t e), (key_level s key t), (free_fits F t.piece t.rotation (pos t.x, pos t.y) (step_of-free srs_table F s key t e).free), (free_pivot_inside F t (step_of-free srs_table F s key t e).free))

  pub led_level : (keys : List Key) (s t : Placement) → StandsAt h piece s → All (λ key. IsTrue (allows Hard key)) keys → led (step_of srs_table F) (Some s) keys ≡ Some t → StandsAt h piece t
  led_level [] s t at allowed e = subst (StandsAt h piece) (some_same e) at
  led_level (key ∷ keys) s t at allowed e = next (step_of srs_table F s key) refl (λ u there f. led_level keys u t there (λ k d within. allowed (suc k) d (omega arith)) f)
    where
      next : (o : Option Placement) → step_of srs_table F s key ≡ o → ((u : Placement) → StandsAt h piece u → led (step_of srs_table F) (Some u) keys ≡ Some t → StandsAt h piece t) → StandsAt h piece t
      next None f later = absurd (not_some (sym (led_none (step_of srs_table F) keys) ∙ ap (λ (o : Option Placement). led (step_of srs_table F) o keys) (sym f) ∙ e))
      next (Some u) f later = later u (stays_level s key u at (allowed 0 key (omega arith)) f) (ap (λ (o : Option Placement). led (step_of srs_table F) o keys) (sym f) ∙ e)

-- from the spawn too
pub leads_level : (F : Field) (r : ℕ) → LiesBelow F r → r ≤ 18 → (piece : Piece) (keys : List Key) (t : Placement) → All (λ key. IsTrue (allows Hard key)) keys → state_after srs_table F piece keys ≡ Some t → StandsAt 20 piece t
unfolding state_after spawned
leads_level F r clear low piece keys t allowed e = elim (cases_Bool (is_free F (spawn_of piece))) [
  | inl free ↦
      let room : IsOpenHeight piece r 20 = open_height piece r 20 (omega arith) (omega arith) in
      let start : StandsAt 20 piece (spawn_of piece) = record { kind = refl; height = ap (λ (z : ℤ). pos 20 +ℤ z) (rise_spawn piece); fits = spawn_fits piece; column = omega arith } in
      led_level F r clear 20 piece room keys (spawn_of piece) t start allowed (ap (λ (o : Option Placement). led (step_of srs_table F) o keys) (sym (cond-true _ (Some (spawn_of piece)) None free)) ∙ e)
  | inr blocked ↦ absurd (not_some (sym (led_none (step_of srs_table F) keys) ∙ ap (λ (o : Option Placement). led (step_of srs_table F) o keys) (sym (cond-false _ (Some (spawn_of piece)) None blocked)) ∙ e))
]

-- what a state falls to from the spawn's height lies under the sky
module _ (F : Field) (r : ℕ) (clear : LiesBelow F r) (low : r ≤ 18) (s t : Placement) (height : upright s ≡ pos 20) (above : StandsAbove F s t) where
  not_filled : (x y k : ℕ) → is_among (cells_of t) (pos x, pos y) ≡ true → y ≤ k → k < r → F x k ≡ false
  unfolding is_free_at is_open less is_level
  not_filled x y k has up below =
      let c = less (pos x, pos y) (pivot_of t) in
      let has_c : is_among (shape t.piece t.rotation) c ≡ true = sym (is_among-moved (pivot_of t) (shape t.piece t.rotation) (pos x, pos y)) ∙ has in
      let rows = and_parts (int_le (minus 2) (c.1 -ℤ rise t.piece t.rotation)) (int_le (c.1 -ℤ rise t.piece t.rotation) (pos 1)) (is_among-all (is_level t.piece t.rotation) (shape t.piece t.rotation) c (shape_level t.piece t.rotation) has_c) in
      let down = int_le-true (minus 2) (c.1 -ℤ rise t.piece t.rotation) rows.0 in
      let tall : pos (t.y + above.rows) +ℤ rise t.piece t.rotation ≡ pos 20 = sym (ap upright above.is) ∙ height in
      let near : k - y ≤ above.rows = omega (arith, ints) in
      let raised : ◌≡◌ {A = Cell} (less (pos x, pos k) (pos t.x, pos (t.y + (k - y)))) c = (let same : pos k -ℤ pos (t.y + (k - y)) ≡ pos y -ℤ pos t.y = omega (arith, ints) in λ i. (pos x -ℤ pos t.x, same i)) in
      search (rules, (is_among-moved (pos t.x, pos (t.y + (k - y))) (shape t.piece t.rotation) (pos x, pos k)), (is_among-all (is_open F) (cells_at t.piece t.rotation (pos t.x, pos (t.y + (k - y)))) (pos x, pos k) (above.free (k - y) near)), (not-true (F x k)), (and_parts (in_well (pos x, pos k)) (not (F x k))))

  pub under_sky : IsUnderSky F t
  under_sky = search (rules, (free_inside F t above.rests.free), cases_lt, not_filled, high)

-- the paths in the open have no Down
pub path_allowed : (piece : Piece) (rotation : Rotation) (x : ℕ) → x < 10 → list_all (allows Hard) (path piece rotation x) ≡ true
unfolding all_below
path_allowed piece rotation = below_each 10 (λ x. list_all (allows Hard) (path piece rotation x)) (each_state (λ p r. all_below 10 (λ x. list_all (allows Hard) (path p r x))) refl piece rotation)

-- a state all of whose cells lie above row r is free one row lower
module _ (F : Field) (r : ℕ) (clear : LiesBelow F r) (t : Placement) (free : is_free F t ≡ true) (over : (c : Cell) → is_among (shape t.piece t.rotation) c ≡ true → pos (r + 1) ≤ℤ (pos t.y +ℤ c.1)) where
  lower_open : (c : Cell) → is_among (shape t.piece t.rotation) c ≡ true → is_open F (moved (lowered t 1) c) ≡ true
  unfolding moved
  lower_open c has =
      search (rules, (in_well-place (moved (pivot_of t) c) (inside_cell t c (free_inside F t free) has)), (open_at F (moved (lowered t 1) c) (in_well-place (moved (pivot_of t) c) (inside_cell t c (free_inside F t free) has)).x ((in_well-place (moved (pivot_of t) c) (inside_cell t c (free_inside F t free) has)).y - 1)))

  pub lower_free : is_free_at F t.piece t.rotation (lowered t 1) ≡ true
  unfolding is_free_at
  lower_free =
      list_all-map (is_open F) (moved (lowered t 1)) (shape t.piece t.rotation)
      ∙ list_all-from_is_among (λ c. is_open F (moved (lowered t 1) c)) (shape t.piece t.rotation) lower_open

-- in the open a turn succeeds and keeps the height
pub turns_keep : (F : Field) (r : ℕ) (s : Placement) → LiesBelow F r → is_free F s ≡ true → pos (r + 2) ≤ℤ upright s → upright s ≤ℤ pos 20 → KeepsHeight F s Clockwise × KeepsHeight F s Anti
turns_keep F r s clear free low high_enough =
    let h = natural (upright s) (omega (arith, ints)) in
    let is = h.is in
    let room : IsOpenHeight s.piece r h.n = open_height s.piece r h.n (omega (arith, ints)) (omega (arith, ints)) in
    let pivot = free_pivot_inside F s free in
    let at : StandsAt h.n s.piece s = record { kind = refl; height = is; fits = free_fits F s.piece s.rotation (pos s.x, pos s.y) free; column = omega (arith, pivot.in_columns) } in
    let both = and_parts _ _ (both_turns F r clear h.n s.piece room s at) in
    (keeps h.n room is Clockwise both.0, keeps h.n room is Anti both.1)
  where
    keeps : (h : ℕ) → IsOpenHeight s.piece r h → upright s ≡ pos h → (key : Key) → is_some (open_key s.piece (s.rotation, s.x) key) ≡ true → KeepsHeight F s key
    keeps h room is key some =
        let spot = some_of (open_key s.piece (s.rotation, s.x) key) some in
        let goes = open_step F r clear h s.piece room s.rotation s.x s.y key spot.0 is spot.1 in
        record { next = record { piece = s.piece; rotation = spot.0.0; x = spot.0.1; y = goes.row }; leads_there = goes.is; same_height = goes.height ∙ sym is }
