-- What lies at lane N or above needs no lane: each such state that keys can reach is open, and so are its neighbours.
use Rattle.std.proofs.Common.{◌≡◌, ◌⊎◌, ℕ, ◌+◌, ◌≤◌, Bool, true, false, pos, ◌+ℤ◌, ◌-ℤ◌, ◌≤ℤ◌, Option, Some, None, List, [], ◌∷◌, map, refl, sym, ap, subst, ◌∙◌, inl, inr, arith, rules}
use Rattle.std.specs.Prelude.{IsTrue, int_le, ◌<ℤ◌}
use Rattle.std.specs.List.{list_all}
use Rattle.std.proofs.lemmas.Int.{ints}
use Rattle.std.proofs.lemmas.Bool.{and_parts, and_from, cases_Bool, cond-true, cond-false}
use Rattle.lane_board.specs.Field.{Field}
use Rattle.srs.specs.declared.piece.Piece.{Piece}
use Rattle.srs.specs.declared.rotation.Rotation.{Rotation}
use Rattle.srs.specs.declared.placement.Placement.{Placement}
use Rattle.srs.specs.Cells.{Cell, minus, moved, shape, cells_of, pivot_of, is_inside_of}
use Rattle.srs.specs.SameCells.{cell_eq, is_among}
use Rattle.srs.specs.Kick.{srs_table, kicks_of}
use Rattle.srs.specs.Rotation.{clockwise_of, anticlockwise_of}
use Rattle.srs.proofs.CallerLemmas.{cell_eq-decides, less, is_among-moved, is_among-all, each_state, some_same, int_le-true}
use Rattle.well.specs.Free.{is_free_at, is_free}
use Rattle.well.proofs.CallerLemmas.{free_inside, free_pivot, free_pivot_inside}
use Rattle.well.specs.LockLaws.{LiesBelow}
use Rattle.moves.specs.declared.key.Key.{Key}
use Rattle.moves.specs.declared.key.Key.TheVariants.{Left, Right, Down, Clockwise, Anti}
use Rattle.moves.specs.declared.key.DropMode.TheVariants.{Soft, Hard}
use Rattle.moves.specs.Keys.{allows}
use Rattle.moves.specs.Leads.{spawned, spawn_of, state_after}
use Rattle.moves.specs.Step.{first_free, shifted, turned, step_of}
use Rattle.moves.specs.Walk.{led}
use Rattle.moves.proofs.StepLemmas.{step_of-free}
use Rattle.moves.proofs.WalkLemmas.{not_some, led_none}
use Rattle.moves.specs.Height.{rise, upright}
use Rattle.moves.specs.Sky.{IsUnderSky}
use Rattle.moves.specs.RestingStates.{IsKeyed}
use Rattle.moves.specs.Lanes.{lowest, lane, IsFloodBelow}
use Rattle.moves.proofs.OpenLemmas.{open_height, natural, IsOpenHeight, free_fits}
use Rattle.moves.proofs.HardLemmas.{StandsAt, stays_level}
use Rattle.moves.proofs.LaneFacts.{is_over, shape_over, near, cases_lane}

-- a free state whose lane is no lower than all rows are clear from lies under the sky
pub inside_under_sky : (F : Field) (r : ℕ) → LiesBelow F r → (t : Placement) → is_inside_of t ≡ true → pos r ≤ℤ lane t → IsUnderSky F t
unfolding is_over less
inside_under_sky F r clear t inside over = record { inside = inside; clear = each }
  where
    each : (x y k : ℕ) → is_among (cells_of t) (pos x, pos y) ≡ true → y ≤ k → F x k ≡ false
    each x y k has up =
        let c = less (pos x, pos y) (pivot_of t) in
        let has_c : is_among (shape t.piece t.rotation) c ≡ true = sym (is_among-moved (pivot_of t) (shape t.piece t.rotation) (pos x, pos y)) ∙ has in
        let low = int_le-true (lowest (shape t.piece t.rotation)) c.1 (is_among-all (is_over t.piece t.rotation) (shape t.piece t.rotation) c (shape_over t.piece t.rotation) has_c) in
        let within : r ≤ k = omega (arith, ints) in
        clear.none x k within

-- where a key takes a pivot
pub record Lifts (piece : Piece) (to : Rotation) (pivot move : Cell) (t : Placement) : Type 0 where
  pub kind : t.piece ≡ piece
  pub turn : t.rotation ≡ to
  pub column : pos t.x ≡ pivot.0 +ℤ move.0
  pub row : pos t.y ≡ pivot.1 +ℤ move.1

pub record LiftsBy (piece : Piece) (to : Rotation) (pivot : Cell) (test : Cell → Bool) (t : Placement) : Type 0 where
  pub move : Cell
  pub passes : test move ≡ true
  pub lifts : Lifts piece to pivot move t

pub lifts_by : (F : Field) (piece : Piece) (to : Rotation) (pivot : Cell) (test : Cell → Bool) (kicks : List Cell) (t : Placement) → list_all test kicks ≡ true → first_free F piece to (map (moved pivot) kicks) ≡ Some t → LiftsBy piece to pivot test t
unfolding first_free moved
lifts_by F piece to pivot test [] t all e = absurd (not_some e)
lifts_by F piece to pivot test (k ∷ ks) t all e =
    search (rules, (cases_Bool (is_free_at F piece to (moved pivot k))), free_pivot, some_same, cond-true, and_parts, (lifts_by F piece to pivot test ks t (and_parts (test k) (list_all test ks) all).1), cond-false)

-- no key lifts the upright height by more than two rows
is_low_kick : Piece → Rotation → Rotation → Cell → Bool
is_low_kick p from to kick = int_le (kick.1 +ℤ (rise p to -ℤ rise p from)) (pos 2)

low_clockwise : (p : Piece) (r : Rotation) → list_all (is_low_kick p r (clockwise_of r)) (kicks_of srs_table p r (clockwise_of r)) ≡ true
unfolding is_low_kick
low_clockwise = each_state (λ p r. list_all (is_low_kick p r (clockwise_of r)) (kicks_of srs_table p r (clockwise_of r))) refl

low_anti : (p : Piece) (r : Rotation) → list_all (is_low_kick p r (anticlockwise_of r)) (kicks_of srs_table p r (anticlockwise_of r)) ≡ true
unfolding is_low_kick
low_anti = each_state (λ p r. list_all (is_low_kick p r (anticlockwise_of r)) (kicks_of srs_table p r (anticlockwise_of r))) refl

turn_lifts : (F : Field) (s : Placement) (to : Rotation) (t : Placement) → list_all (is_low_kick s.piece s.rotation to) (kicks_of srs_table s.piece s.rotation to) ≡ true → turned srs_table F s to ≡ Some t → upright t ≤ℤ (upright s +ℤ pos 2)
unfolding turned is_low_kick
turn_lifts F s to t all e =
    let way = lifts_by F s.piece to (pivot_of s) (is_low_kick s.piece s.rotation to) (kicks_of srs_table s.piece s.rotation to) t all e in
    let low = int_le-true (way.move.1 +ℤ (rise s.piece to -ℤ rise s.piece s.rotation)) (pos 2) way.passes in
    let row = way.lifts.row in
    let same : rise t.piece t.rotation ≡ rise s.piece to = λ i. rise (way.lifts.kind i) (way.lifts.turn i) in
    omega (arith, ints)

pub shift_lifts : (F : Field) (s : Placement) (move : Cell) (t : Placement) → shifted F s move ≡ Some t → Lifts s.piece s.rotation (pivot_of s) move t
unfolding shifted
shift_lifts F s move t e =
    let way = lifts_by F s.piece s.rotation (pivot_of s) (λ (c : Cell). cell_eq c move) (move ∷ []) t (and_from (cell_eq move move) true ((cell_eq-decides move move).1 refl) refl) e in
    subst (λ (m : Cell). Lifts s.piece s.rotation (pivot_of s) m t) ((cell_eq-decides way.move move).0 way.passes) way.lifts

same_rise : (s t : Placement) (move : Cell) → Lifts s.piece s.rotation (pivot_of s) move t → (upright t ≡ upright s +ℤ move.1) × (lane t ≡ lane s +ℤ move.1)
same_rise s t move way =
    let rises : rise t.piece t.rotation ≡ rise s.piece s.rotation = λ i. rise (way.kind i) (way.turn i) in
    let floors : lowest (shape t.piece t.rotation) ≡ lowest (shape s.piece s.rotation) = λ i. lowest (shape (way.kind i) (way.turn i)) in
    let row = way.row in
    (omega (arith, ints), omega (arith, ints))

pub key_lifts : (F : Field) (s : Placement) (key : Key) (t : Placement) → step_of srs_table F s key ≡ Some t → upright t ≤ℤ (upright s +ℤ pos 2)
key_lifts F s Left t e = let is = (same_rise s t (minus 1, pos 0) (shift_lifts F s (minus 1, pos 0) t e)).0 in omega (arith, ints)
key_lifts F s Right t e = let is = (same_rise s t (pos 1, pos 0) (shift_lifts F s (pos 1, pos 0) t e)).0 in omega (arith, ints)
key_lifts F s Down t e = let is = (same_rise s t (pos 0, minus 1) (shift_lifts F s (pos 0, minus 1) t e)).0 in omega (arith, ints)
key_lifts F s Clockwise t e = turn_lifts F s (clockwise_of s.rotation) t (low_clockwise s.piece s.rotation) e
key_lifts F s Anti t e = turn_lifts F s (anticlockwise_of s.rotation) t (low_anti s.piece s.rotation) e

-- Down sinks by one row
pub down_sinks : (F : Field) (s t : Placement) → step_of srs_table F s Down ≡ Some t → upright t ≡ upright s +ℤ minus 1
down_sinks F s t e = (same_rise s t (pos 0, minus 1) (shift_lifts F s (pos 0, minus 1) t e)).0

-- the upright height lies at most one row from the pivot
pub record IsRiseNear (p : Piece) (r : Rotation) : Type 0 where
  pub low : minus 1 ≤ℤ rise p r
  pub high : rise p r ≤ℤ pos 1

pub rise_near : (p : Piece) (r : Rotation) → IsRiseNear p r
rise_near p r = search (rules, and_parts, each_state, int_le-true)

-- a free state above the lanes
pub record IsAbove (N : ℕ) (F : Field) (piece : Piece) (s : Placement) : Type 0 where
  kind : s.piece ≡ piece
  free : is_free F s ≡ true
  lanes : pos N ≤ℤ lane s
  low : upright s ≤ℤ pos 20

-- a state that is open, and no higher than the spawn
pub record IsOpenState (r : ℕ) (F : Field) (piece : Piece) (s : Placement) : Type 0 where
  kind : s.piece ≡ piece
  free : is_free F s ≡ true
  clear : pos r ≤ℤ lane s
  low : upright s ≤ℤ pos 20

module _ (F : Field) (r N : ℕ) (clear : LiesBelow F r) (over : r + 2 ≤ N) (few : N ≤ 16) (piece : Piece) (S : Placement → Type 0) (flood : IsFloodBelow N F piece S) where
  stands : (s : Placement) → IsAbove N F piece s → (h : ℕ) → upright s ≡ pos h → StandsAt h piece s
  stands s above h e = search (rules, free_pivot_inside, free_fits)

  level_open : (s t : Placement) (key : Key) → IsAbove N F piece s → IsTrue (allows Hard key) → step_of srs_table F s key ≡ Some t → IsOpenState r F piece t
  level_open s t key above allowed e =
      let by = near s in
      let by_t = near t in
      let lanes = above.lanes in
      let low = above.low in
      let h = natural (upright s) (omega (arith, ints, by.high)) in
      let is = h.is in
      let room : IsOpenHeight piece r h.n = open_height piece r h.n (omega (arith, ints, by.high)) (omega (arith, ints)) in
      search (rules, (stays_level F r clear h.n piece room s key t (stands s above h.n is) allowed e), (step_of-free srs_table F s key t e))

  down_open : (s t : Placement) → IsAbove N F piece s → step_of srs_table F s Down ≡ Some t → IsOpenState r F piece t
  down_open s t above e =
      let is = same_rise s t (pos 0, minus 1) (shift_lifts F s (pos 0, minus 1) t e) in
      let lanes = above.lanes in
      let low = above.low in
      let free = step_of-free srs_table F s Down t e in
      record { kind = free.kind ∙ above.kind; free = free.free; clear = omega (arith, ints, is.1); low = omega (arith, ints, is.0) }

  step_open : (s t : Placement) (key : Key) → IsAbove N F piece s → step_of srs_table F s key ≡ Some t → IsOpenState r F piece t
  step_open s t Left above e = level_open s t Left above refl e
  step_open s t Right above e = level_open s t Right above refl e
  step_open s t Down above e = down_open s t above e
  step_open s t Clockwise above e = level_open s t Clockwise above refl e
  step_open s t Anti above e = level_open s t Anti above refl e

  -- below lane N or not
  by_lane : (t : Placement) → IsOpenState r F piece t → S t ⊎ IsAbove N F piece t
  by_lane t open_t = search (rules, cases_lane, inside_under_sky, free_inside)

  next_in : (s t : Placement) (key : Key) → S s ⊎ IsAbove N F piece s → step_of srs_table F s key ≡ Some t → S t ⊎ IsAbove N F piece t
  next_in s t key (inr above) e = by_lane t (step_open s t key above e)
  next_in s t key (inl in_s) e = elim (cases_lane N t) [
    | inl below ↦ inl (flood.closed s t key in_s e below)
    | inr lanes ↦
        let by = near s in
        let under = flood.below s in_s in
        let lifted = key_lifts F s key t e in
        let free = step_of-free srs_table F s key t e in
        inr (record { kind = free.kind ∙ flood.kind s in_s; free = free.free; lanes = lanes; low = omega (arith, ints, by.low) })
  ]

  pub led_in : (keys : List Key) (s t : Placement) → S s ⊎ IsAbove N F piece s → led (step_of srs_table F) (Some s) keys ≡ Some t → S t ⊎ IsAbove N F piece t
  led_in [] s t here e = subst (λ t. S t ⊎ IsAbove N F piece t) (some_same e) here
  led_in (key ∷ keys) s t here e = next (step_of srs_table F s key) refl (λ u there f. led_in keys u t there f)
    where
      next : (o : Option Placement) → step_of srs_table F s key ≡ o → ((u : Placement) → S u ⊎ IsAbove N F piece u → led (step_of srs_table F) (Some u) keys ≡ Some t → S t ⊎ IsAbove N F piece t) → S t ⊎ IsAbove N F piece t
      next None f later = absurd (not_some (sym (led_none (step_of srs_table F) keys) ∙ ap (λ (o : Option Placement). led (step_of srs_table F) o keys) (sym f) ∙ e))
      next (Some u) f later = later u (next_in s u key here f) (ap (λ (o : Option Placement). led (step_of srs_table F) o keys) (sym f) ∙ e)

-- the flood below lane N has each state below it to which keys lead
pub keyed_in : (F : Field) (r N : ℕ) (piece : Piece) (S : Placement → Type 0) → LiesBelow F r → r + 2 ≤ N → N ≤ 16 → IsFloodBelow N F piece S → (t : Placement) → t.piece ≡ piece → IsKeyed srs_table F Soft t → lane t <ℤ pos N → S t
unfolding state_after spawned
keyed_in F r N piece S clear over few flood t kind keyed below =
    search (rules, (cases_Bool (is_free F (spawn_of piece))), (led_in F r N clear over few piece S flood keyed.keys (spawn_of piece) t), cond-true, not_some, (led_none (step_of srs_table F) keyed.keys), cond-false, keyed.leads_there)
