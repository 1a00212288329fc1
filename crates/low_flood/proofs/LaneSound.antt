-- Boards whose states keys lead to, and what moves and turns lead to from them.
use Rattle.std.proofs.Common.{◌≡◌, ℕ, zero, suc, ◌+◌, ◌<◌, ◌≤◌, true, pos, ◌+ℤ◌, ◌-ℤ◌, Some, [], ◌∷◌, ◌++◌, map, refl, sym, ap, subst, ◌∙◌, inl, inr, arith, rules}
use Rattle.std.specs.List.{list_all}
use Rattle.std.proofs.lemmas.Int.{ints}
use Rattle.std.proofs.lemmas.Bool.{or_cases, cond-true, false≢true}
use Rattle.lane_board.specs.Field.{Field, empty_field, union, moved_within}
use Rattle.srs.specs.declared.piece.Piece.{Piece}
use Rattle.srs.specs.declared.rotation.Rotation.{Rotation}
use Rattle.srs.specs.declared.placement.Placement.{Placement}
use Rattle.srs.specs.Canonical.{canonical_rotation, canonical_move}
use Rattle.srs.specs.Cells.{Cell, minus, moved, shape, pivot_of}
use Rattle.srs.specs.Kick.{srs_table, kicks_of}
use Rattle.srs.proofs.CallerLemmas.{canonical_pivot, found_cells}
use Rattle.well.specs.Free.{is_free_at, is_free}
use Rattle.well.proofs.CallerLemmas.{free_inside, free_pivot}
use Rattle.well.specs.LockLaws.{LiesBelow}
use Rattle.moves.specs.declared.key.Key.{Key}
use Rattle.moves.specs.declared.key.Key.TheVariants.{Left, Right, Down}
use Rattle.moves.specs.declared.key.DropMode.TheVariants.{Soft}
use Rattle.moves.specs.Step.{first_free, shifted, turned, step_of}
use Rattle.moves.proofs.CallerLemmas.{step_of-free, soft_allows, leads-append, near, sky_is_reached}
use Rattle.moves.specs.RestingStates.{IsKeyed}
use Rattle.moves.specs.Lanes.{lowest, lane}
use Rattle.low_flood.specs.LaneFlood.{state_column}
use Rattle.low_flood.specs.LaneTurns.{arrivals, lane_move}
use Rattle.low_flood.proofs.LaneTests.{turned_within}
use Rattle.place_sets.specs.Shifts.{sideways, lower, widened, widened_by, IsSpread}
use Rattle.low_flood.specs.SkyBoard.{IsLaneMap, sky_board}
use Rattle.low_flood.proofs.ClassLemmas.{class_lane, sky_same}
use Rattle.place_sets.proofs.CallerLemmas.{LiesWithin, IsWithin, moved_from, widened-from}
use Rattle.low_flood.proofs.LaneTurns.{class_lane_state, class_pivot, is_low_move, arrived, Arrived}
use Rattle.low_flood.proofs.SkyBoards.{sky_board-exact}
use Rattle.place_sets.specs.declared.spreading.Shifts.TheVariants as Shift

-- the state has a lane state
pub record IsAt (t : Placement) (x y : ℕ) : Type 0 where
  pub column : state_column t ≡ pos x
  pub at : lane t ≡ pos y

-- each lane state of the board is free, and keys lead to the state of the rotation that is there
pub record IsSoundBoard (F : Field) (piece : Piece) (r : Rotation) (free B : Field) : Type 0 where
  pub within : IsWithin B free
  pub keyed : (t : Placement) (x y : ℕ) → t.piece ≡ piece → t.rotation ≡ r → IsAt t x y → B x y ≡ true → IsKeyed srs_table F Soft t

-- one key more
pub one_key : (F : Field) (s t : Placement) (key : Key) → t.piece ≡ s.piece → IsKeyed srs_table F Soft s → step_of srs_table F s key ≡ Some t → IsKeyed srs_table F Soft t
one_key F s t key kind keyed e = record {
  keys = keyed.keys ++ (key ∷ []);
  allowed = λ k d within. soft_allows d;
  leads_there = search (rules, leads-append);
}

module _ (F : Field) (N : ℕ) (piece : Piece) (r : Rotation) (free : Field) (is : IsLaneMap F piece (canonical_rotation piece r) N free) (lies : LiesWithin free N) where
  -- the state of a free lane state
  pub record StateAt (x y : ℕ) : Type 0 where
    pub s : Placement
    pub kind : s.piece ≡ piece
    pub turn : s.rotation ≡ r
    pub pivot : class_pivot piece r (pos x) (pos y) ≡ pivot_of s
    pub at : IsAt s x y
    pub is_free_there : is_free F s ≡ true

  pub state_of_lane : (x y : ℕ) → free x y ≡ true → StateAt x y
  state_of_lane x y filled =
      let bounds = lies.inside x y filled in
      let is_free_here : is_free_at F piece r (class_pivot piece r (pos x) (pos y)) ≡ true = sym (class_lane_state F piece r (pos x) (pos y)) ∙ sym (is.exact x y bounds.1) ∙ filled in
      let lies_at = free_pivot F piece r (class_pivot piece r (pos x) (pos y)) is_free_here in
      let p : pos x -ℤ (canonical_move piece r).0 ≡ pos lies_at.x = ap (λ (c : Cell). c.0) lies_at.is in
      let q : pos y -ℤ lowest (shape piece r) ≡ pos lies_at.y = ap (λ (c : Cell). c.1) lies_at.is in
      record {
        s = record { piece = piece; rotation = r; x = lies_at.x; y = lies_at.y };
        kind = refl;
        turn = refl;
        pivot = lies_at.is;
        at = record { column = omega (arith, ints); at = omega (arith, ints) };
        is_free_there = subst (λ (c : Cell). is_free_at F piece r c ≡ true) lies_at.is is_free_here;
      }

  -- two states of the rotation with one lane state are one
  same_state : (s t : Placement) (x y : ℕ) → s.piece ≡ piece → t.piece ≡ piece → s.rotation ≡ r → t.rotation ≡ r → IsAt s x y → IsAt t x y → s ≡ t
  same_state s t x y k l m n a b = search rules

  -- a state whose lane state is free is free
  lane_state_free : (t : Placement) (x y : ℕ) → t.piece ≡ piece → t.rotation ≡ r → IsAt t x y → free x y ≡ true → is_free F t ≡ true
  lane_state_free t x y kind turn at filled =
      let s = state_of_lane x y filled in
      subst (λ (u : Placement). is_free F u ≡ true) (same_state s.s t x y s.kind kind s.turn turn s.at at) s.is_free_there

  -- and the lane state of a free state is free
  pub free_lane_state : (t : Placement) (x y : ℕ) → t.piece ≡ piece → t.rotation ≡ r → IsAt t x y → y < N → is_free F t ≡ true → free x y ≡ true
  free_lane_state t x y kind turn at below t_free =
      let moves : (canonical_move t.piece t.rotation).0 ≡ (canonical_move piece r).0 = λ i. (canonical_move (kind i) (turn i)).0 in
      let floors : lowest (shape t.piece t.rotation) ≡ lowest (shape piece r) = λ i. lowest (shape (kind i) (turn i)) in
      let col = at.column in
      let row = at.at in
      let to_x : pos x -ℤ (canonical_move piece r).0 ≡ pos t.x = omega (arith, ints) in
      let to_y : pos y -ℤ lowest (shape piece r) ≡ pos t.y = omega (arith, ints) in
      let k = sym kind in
      let m = sym turn in
      is.exact x y below ∙ class_lane_state F piece r (pos x) (pos y) ∙ (λ i. is_free_at F (k i) (m i) (to_x i, to_y i)) ∙ t_free

  -- a single move between free lane states
  shift_there : (s t : Placement) (move : Cell) → s.piece ≡ t.piece → s.rotation ≡ t.rotation → moved (pivot_of s) move ≡ pivot_of t → is_free F t ≡ true → shifted F s move ≡ Some t
  unfolding shifted first_free
  shift_there s t move kind turn goes t_free = search (rules, cond-true)

  -- a lane state beside a sound one, that is free, is sound
  beside_keyed : (B : Field) → IsSoundBoard F piece r free B → (move : Cell) (key : Key) → ((s : Placement) → step_of srs_table F s key ≡ shifted F s move) →
      (t : Placement) (x y : ℕ) → t.piece ≡ piece → t.rotation ≡ r → IsAt t x y → free x y ≡ true → moved_within B N move.0 move.1 x y ≡ true → IsKeyed srs_table F Soft t
  unfolding moved
  beside_keyed B sound move key is_key t x y kind turn at filled beside =
      let way = moved_from B N move x y beside in
      let s = state_of_lane way.from_x way.from_y (sound.within.has way.from_x way.from_y way.filled) in
      let keyed = sound.keyed s.s way.from_x way.from_y s.kind s.turn s.at way.filled in
      let p : pos way.from_x +ℤ move.0 ≡ pos x = ap (λ (c : Cell). c.0) way.there in
      let q : pos way.from_y +ℤ move.1 ≡ pos y = ap (λ (c : Cell). c.1) way.there in
      let k = s.kind ∙ sym kind in
      let m = s.turn ∙ sym turn in
      let moves : (canonical_move s.s.piece s.s.rotation).0 ≡ (canonical_move t.piece t.rotation).0 = λ i. (canonical_move (k i) (m i)).0 in
      let floors : lowest (shape s.s.piece s.s.rotation) ≡ lowest (shape t.piece t.rotation) = λ i. lowest (shape (k i) (m i)) in
      let s_x = s.at.column in
      let s_y = s.at.at in
      let t_x = at.column in
      let t_y = at.at in
      let column : pos s.s.x +ℤ move.0 ≡ pos t.x = omega (arith, ints) in
      let row : pos s.s.y +ℤ move.1 ≡ pos t.y = omega (arith, ints) in
      one_key F s.s t key (sym k) keyed (is_key s.s ∙ shift_there s.s t move k m (λ i. (column i, row i)) (lane_state_free t x y kind turn at filled))

  widened_sound : (B : Field) → IsSoundBoard F piece r free B → IsSoundBoard F piece r free (widened Shift.All N free B)
  unfolding sideways lower union
  widened_sound B sound =
      search (rules, widened-from, sound.within.has, sound.keyed, or_cases, (beside_keyed B sound (pos 0, minus 1) Down (λ s. refl)), (beside_keyed B sound (minus 1, pos 0) Left (λ s. refl)), (beside_keyed B sound (pos 1, pos 0) Right (λ s. refl)))

  pub spread_sound : (S R : Field) → IsSpread Shift.All N free S R → IsSoundBoard F piece r free S → IsSoundBoard F piece r free R
  unfolding widened_by
  spread_sound S R spread sound = subst (IsSoundBoard F piece r free) (sym spread.grown) (by_rounds spread.rounds)
    where
      by_rounds : (rounds : ℕ) → IsSoundBoard F piece r free (widened_by rounds Shift.All N free S)
      by_rounds zero = sound
      by_rounds (suc rounds) = widened_sound (widened_by rounds Shift.All N free S) (by_rounds rounds)

  pub union_sound : (A B : Field) → IsSoundBoard F piece r free A → IsSoundBoard F piece r free B → IsSoundBoard F piece r free (union A B)
  unfolding union
  union_sound A B a b = search (rules, or_cases, a.within.has, b.within.has, a.keyed, b.keyed)

  -- the states under the sky
  pub sky_sound : (rows : ℕ) → LiesBelow F rows → rows + 2 ≤ N → N ≤ 16 → IsWithin (sky_board piece (canonical_rotation piece r) N free) free → IsSoundBoard F piece r free (sky_board piece (canonical_rotation piece r) N free)
  unfolding moved
  sky_sound rows clear over few within = record { within = within; keyed = keyed }
    where
      keyed : (t : Placement) (x y : ℕ) → t.piece ≡ piece → t.rotation ≡ r → IsAt t x y → sky_board piece (canonical_rotation piece r) N free x y ≡ true → IsKeyed srs_table F Soft t
      keyed t x y kind turn at held =
          let filled = within.has x y held in
          let bounds = lies.inside x y filled in
          let t_free = lane_state_free t x y kind turn at filled in
          let pivot = canonical_pivot t (free_inside F t t_free) in
          let c = canonical_rotation t.piece t.rotation in
          let q : Placement = record { piece = t.piece; rotation = c; x = pivot.x; y = pivot.y } in
          let is_c : c ≡ canonical_rotation piece r = λ i. canonical_rotation (kind i) (turn i) in
          let col = at.column in
          let row = at.at in
          let floors = class_lane t.piece t.rotation in
          let q_x : pos t.x +ℤ (canonical_move t.piece t.rotation).0 ≡ pos pivot.x = ap (λ (c : Cell). c.0) pivot.is in
          let q_y : pos t.y +ℤ (canonical_move t.piece t.rotation).1 ≡ pos pivot.y = ap (λ (c : Cell). c.1) pivot.is in
          let column : x ≡ pivot.x = omega (arith, ints) in
          let at_q : lane q ≡ pos y = omega (arith, ints) in
          let map_q : IsLaneMap F t.piece c N free = subst (λ (d : Rotation). IsLaneMap F t.piece d N free) (sym is_c) (subst (λ (p : Piece). IsLaneMap F p (canonical_rotation piece r) N free) (sym kind) is) in
          let fits : rows ≤ N = omega arith in
          let k = sym kind in
          let d = sym is_c in
          let on_board : sky_board t.piece c N free pivot.x y ≡ true = (λ i. sky_board (kind i) (is_c i) N free pivot.x y) ∙ ap (λ (x : ℕ). sky_board piece (canonical_rotation piece r) N free x y) (sym column) ∙ held in
          let sky_q = (sky_board-exact F rows N clear fits few q y at_q free map_q bounds.1).0 on_board in
          let sky_t = sky_same F q t (found_cells q t refl refl (sym pivot.is)) sky_q in
          let by = near t in
          sky_is_reached F rows t clear (omega arith) sky_t (omega (arith, ints, by.low))

-- what a turn leads to from a sound board
module _ (F : Field) (rows N : ℕ) (clear : LiesBelow F rows) (over : rows + 2 ≤ N) (few : N ≤ 16) (piece : Piece) (from to : Rotation) (free_from free_to : Field)
    (is_from : IsLaneMap F piece (canonical_rotation piece from) N free_from) (is_to : IsLaneMap F piece (canonical_rotation piece to) N free_to) (lies_from : LiesWithin free_from N) (lies_to : LiesWithin free_to N)
    (key : Key) (is_key : (s : Placement) → s.rotation ≡ from → step_of srs_table F s key ≡ turned srs_table F s to) (small : list_all (is_low_move piece from to) (kicks_of srs_table piece from to) ≡ true) (S : Field) (sound : IsSoundBoard F piece from free_from S) (lies : LiesWithin S N) where
  record Turned (a b : ℕ) : Type 0 where
    t : Placement
    kind : t.piece ≡ piece
    turn : t.rotation ≡ to
    at : IsAt t a b
    keyed : IsKeyed srs_table F Soft t
    t_free : is_free F t ≡ true

  turned_there : (a b : ℕ) → Arrived F rows N clear over few piece from to free_to is_to (kicks_of srs_table piece from to) S a b → Turned a b
  unfolding turned
  turned_there a b way =
      let s = state_of_lane F N piece from free_from is_from lies_from way.x way.y (sound.within.has way.x way.y way.held) in
      let keyed = sound.keyed s.s way.x way.y s.kind s.turn s.at way.held in
      let t : Placement = record { piece = piece; rotation = to; x = way.col; y = way.row } in
      let goes : turned srs_table F s.s to ≡ Some t = (λ i. first_free F (s.kind i) to (map (moved (back s.pivot i)) (kicks_of srs_table (s.kind i) (s.turn i) to))) ∙ way.turns in
      let step = is_key s.s s.turn ∙ goes in
      let there = step_of-free srs_table F s.s key t step in
      let column = way.column_is in
      let row = way.lane_is in
      record {
        t = t;
        kind = refl;
        turn = refl;
        at = record { column = column; at = row };
        keyed = one_key F s.s t key (sym s.kind) keyed step;
        t_free = there.free;
      }
    where
      back : {c d : Cell} → c ≡ d → d ≡ c
      back e = sym e

  pub arrivals_sound : IsSoundBoard F piece to free_to (arrivals piece from to N free_to S empty_field)
  unfolding empty_field
  arrivals_sound = record {
    within = record {
      has = λ x y held.
          let way = reach x y held in
          let row = way.at.at in
          free_lane_state F N piece to free_to is_to lies_to way.t x y way.kind way.turn way.at (below x y held) way.t_free;
    };
    keyed = λ t x y kind turn at held.
        let way = reach x y held in
        subst (IsKeyed srs_table F Soft) (same_state F N piece to free_to is_to lies_to way.t t x y way.kind kind way.turn turn way.at at) way.keyed;
  }
    where
      reach : (x y : ℕ) → arrivals piece from to N free_to S empty_field x y ≡ true → Turned x y
      reach x y held = elim (arrived F rows N clear over few piece from to free_to is_to (kicks_of srs_table piece from to) S empty_field x y small lies held) [
        | inl none ↦ absurd (false≢true none)
        | inr way ↦ turned_there x y way
      ]

      below : (x y : ℕ) → arrivals piece from to N free_to S empty_field x y ≡ true → y < N
      below x y held = ((turned_within _ N (map (lane_move piece from to) (kicks_of srs_table piece from to)) S empty_field (record { inside = λ x y none. absurd (false≢true none) })).inside x y held).1
