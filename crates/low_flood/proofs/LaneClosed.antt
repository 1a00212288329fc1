-- Boards that are closed are a flood below their lanes.
use Rattle.std.proofs.Common.{◌≡◌, ℕ, ◌+◌, ◌<◌, ◌≤◌, true, pos, ◌+ℤ◌, ◌-ℤ◌, Some, refl, sym, ap, subst, ◌∙◌, arith, map, rules}
use Rattle.std.specs.Prelude.{◌<ℤ◌}
use Rattle.std.specs.List.{list_all}
use Rattle.std.proofs.lemmas.Int.{ints}
use Rattle.std.proofs.lemmas.Bool.{or_left, or_right}
use Rattle.lane_board.specs.Field.{Field, empty_field, union, moved_within}
use Rattle.srs.specs.declared.piece.Piece.{Piece}
use Rattle.srs.specs.declared.rotation.Rotation.{Rotation}
use Rattle.srs.specs.declared.placement.Placement.{Placement}
use Rattle.srs.specs.Cells.{Cell, minus, moved, shape, pivot_of}
use Rattle.srs.specs.Canonical.{canonical_rotation, canonical_move}
use Rattle.srs.specs.Kick.{srs_table, kicks_of}
use Rattle.srs.proofs.CallerLemmas.{canonical_pivot, found_cells, same_cells-sym}
use Rattle.well.proofs.CallerLemmas.{free_inside}
use Rattle.srs.specs.Rotation.{clockwise_of, anticlockwise_of}
use Rattle.well.specs.Free.{is_free_at, is_free}
use Rattle.well.specs.LockLaws.{LiesBelow}
use Rattle.moves.specs.declared.key.Key.{Key}
use Rattle.moves.specs.declared.key.Key.TheVariants.{Left, Right, Down, Clockwise, Anti}
use Rattle.moves.specs.declared.key.DropMode.TheVariants.{Soft}
use Rattle.moves.specs.Step.{first_free, shifted, turned, step_of}
use Rattle.moves.proofs.CallerLemmas.{step_of-free, Lifts, lifts_by, shift_lifts}
use Rattle.place_sets.specs.Shifts.{sideways, lower}
use Rattle.place_sets.proofs.CallerLemmas.{LiesWithin, moved_to}
use Rattle.moves.specs.Sky.{IsUnderSky}
use Rattle.moves.specs.RestingStates.{IsKeyed}
use Rattle.moves.specs.Lanes.{lowest, lane, IsFloodBelow}
use Rattle.low_flood.specs.SkyBoard.{IsLaneMap, sky_board}
use Rattle.low_flood.specs.LaneTurns.{arrivals}
use Rattle.low_flood.specs.LaneFlood.{Lanes, IsInLanes, IsLanesClosed, state_column}
use Rattle.low_flood.proofs.ClassLemmas.{class_lane, sky_same}
use Rattle.low_flood.proofs.SkyBoards.{sky_board-exact}
use Rattle.low_flood.proofs.LaneTurns.{free_lane, inside_lane, is_low_move, clockwise_low, anti_low, turn_arrives, class_lane_state}

-- a turn leads to its rotation
turned-rotation : (F : Field) (s : Placement) (to : Rotation) (t : Placement) → turned srs_table F s to ≡ Some t → t.rotation ≡ to
unfolding turned
turned-rotation F s to t e = (lifts_by F s.piece to (pivot_of s) (λ (c : Cell). true) (kicks_of srs_table s.piece s.rotation to) t refl e).lifts.turn

module _ (F : Field) (r N : ℕ) (clear : LiesBelow F r) (over : r + 2 ≤ N) (few : N ≤ 16) (piece : Piece) (free S : Lanes)
    (is : (rotation : Rotation) → IsLaneMap F piece (canonical_rotation piece rotation) N (free rotation)) (closed : IsLanesClosed piece N free S) (lies : (rotation : Rotation) → LiesWithin (S rotation) N) where
  state_in : Rotation → ℕ → ℕ → Placement
  state_in rotation x row = record { piece = piece; rotation = rotation; x = x; y = row }

  -- the lane state of a free state of the piece
  record LaneStateOf (t : Placement) : Type 0 where
    x : ℕ
    column : state_column t ≡ pos x
    in_columns : x < 10
    y : ℕ
    at : lane t ≡ pos y

  lane_state_of : (t : Placement) → is_free F t ≡ true → LaneStateOf t
  unfolding moved
  lane_state_of t t_free = search (rules, (canonical_pivot t), free_inside, free_lane)

  -- it is free
  free_in_lanes : (t : Placement) (x y : ℕ) → t.piece ≡ piece → is_free F t ≡ true → state_column t ≡ pos x → lane t ≡ pos y → y < N → free t.rotation x y ≡ true
  free_in_lanes t x y kind t_free column at below =
      let move : (canonical_move t.piece t.rotation).0 ≡ (canonical_move piece t.rotation).0 = ap (λ (p : Piece). (canonical_move p t.rotation).0) kind in
      let floors : lowest (shape t.piece t.rotation) ≡ lowest (shape piece t.rotation) = ap (λ (p : Piece). lowest (shape p t.rotation)) kind in
      let to_x : pos x -ℤ (canonical_move piece t.rotation).0 ≡ pos t.x = omega (arith, ints) in
      let to_y : pos y -ℤ lowest (shape piece t.rotation) ≡ pos t.y = omega (arith, ints) in
      let back : piece ≡ t.piece = sym kind in
      (is t.rotation).exact x y below ∙ class_lane_state F piece t.rotation (pos x) (pos y) ∙ (λ i. is_free_at F (back i) t.rotation (to_x i, to_y i)) ∙ t_free

  -- a single move from a held lane state leads beside it
  moves_beside : (rotation : Rotation) (x row px y : ℕ) (move : Cell) (t : Placement) (a b : ℕ) → pos x +ℤ (canonical_move piece rotation).0 ≡ pos px → pos row +ℤ lowest (shape piece rotation) ≡ pos y → S rotation px y ≡ true →
      Lifts piece rotation (pos x, pos row) move t → state_column t ≡ pos a → lane t ≡ pos b → a < 10 → b < N → moved_within (S rotation) N move.0 move.1 a b ≡ true
  unfolding moved
  moves_beside rotation x row px y move t a b col at held lifts column_t at_t in_columns below =
      let floors : lowest (shape t.piece t.rotation) ≡ lowest (shape piece rotation) = λ i. lowest (shape (lifts.kind i) (lifts.turn i)) in
      let moves : (canonical_move t.piece t.rotation).0 ≡ (canonical_move piece rotation).0 = λ i. (canonical_move (lifts.kind i) (lifts.turn i)).0 in
      let up = lifts.row in
      let side = lifts.column in
      let p : pos px +ℤ move.0 ≡ pos a = omega (arith, ints) in
      let q : pos y +ℤ move.1 ≡ pos b = omega (arith, ints) in
      moved_to (S rotation) N move px y a b held (λ i. (p i, q i)) in_columns below

  turn_held : (rotation to : Rotation) (x row px y : ℕ) (t : Placement) (a b : ℕ) → list_all (is_low_move piece rotation to) (kicks_of srs_table piece rotation to) ≡ true →
      ((a b : ℕ) → arrivals piece rotation to N (free to) (S rotation) empty_field a b ≡ true → S to a b ≡ true) → pos x +ℤ (canonical_move piece rotation).0 ≡ pos px → pos row +ℤ lowest (shape piece rotation) ≡ pos y → S rotation px y ≡ true →
      turned srs_table F (state_in rotation x row) to ≡ Some t → t.piece ≡ piece → t.rotation ≡ to → state_column t ≡ pos a → lane t ≡ pos b → a < 10 → b < N → IsInLanes piece S t
  unfolding turned state_in
  turn_held rotation to x row px y t a b small so col at held e kind turn column_t at_t in_columns below =
      let back_x : pos px -ℤ (canonical_move piece rotation).0 ≡ pos x = omega (arith, ints) in
      let back_y : pos y -ℤ lowest (shape piece rotation) ≡ pos row = omega (arith, ints) in
      let same : t ≡ state_in to t.x t.y = λ i. record { piece = kind i; rotation = turn i; x = t.x; y = t.y } in
      let floors : lowest (shape t.piece t.rotation) ≡ lowest (shape piece to) = λ i. lowest (shape (kind i) (turn i)) in
      let moves : (canonical_move t.piece t.rotation).0 ≡ (canonical_move piece to).0 = λ i. (canonical_move (kind i) (turn i)).0 in
      let lane_is : pos t.y +ℤ lowest (shape piece to) ≡ pos b = omega (arith, ints) in
      let column_is : pos t.x +ℤ (canonical_move piece to).0 ≡ pos a = omega (arith, ints) in
      let arrives = turn_arrives F r N clear over few piece rotation to (free to) (is to) (kicks_of srs_table piece rotation to) (S rotation) empty_field px y a b t.x t.y small ((lies rotation).inside px y held).1 held
      ((λ i. first_free F piece to (map (moved (back_x i, back_y i)) (kicks_of srs_table piece rotation to))) ∙ e ∙ ap (λ (t : Placement). Some t) same) column_is lane_is in_columns below in
      record { kind = kind; x = a; column = column_t; y = b; at = at_t; held = subst (λ (r : Rotation). S r a b ≡ true) (sym turn) (so a b arrives) }

  from_left : (rotation : Rotation) (a b : ℕ) → moved_within (S rotation) N (minus 1) (pos 0) a b ≡ true → union (sideways N (S rotation)) (lower N (S rotation)) a b ≡ true
  unfolding union sideways lower
  from_left rotation a b m = or_left _ (moved_within (S rotation) N (pos 0) (minus 1) a b) (or_left _ (moved_within (S rotation) N (pos 1) (pos 0) a b) m)

  from_right : (rotation : Rotation) (a b : ℕ) → moved_within (S rotation) N (pos 1) (pos 0) a b ≡ true → union (sideways N (S rotation)) (lower N (S rotation)) a b ≡ true
  unfolding union sideways lower
  from_right rotation a b m = or_left _ (moved_within (S rotation) N (pos 0) (minus 1) a b) (or_right (moved_within (S rotation) N (minus 1) (pos 0) a b) _ m)

  from_down : (rotation : Rotation) (a b : ℕ) → moved_within (S rotation) N (pos 0) (minus 1) a b ≡ true → union (sideways N (S rotation)) (lower N (S rotation)) a b ≡ true
  unfolding union sideways lower
  from_down rotation a b m = or_right _ (moved_within (S rotation) N (pos 0) (minus 1) a b) m

  key_held : (rotation : Rotation) (x row px y : ℕ) (key : Key) (t : Placement) → pos x +ℤ (canonical_move piece rotation).0 ≡ pos px → pos row +ℤ lowest (shape piece rotation) ≡ pos y → S rotation px y ≡ true →
      step_of srs_table F (state_in rotation x row) key ≡ Some t → lane t <ℤ pos N → IsInLanes piece S t
  unfolding state_in
  key_held rotation x row px y key t col at held e low = by_key key e
    where
      goes : (key : Key) → step_of srs_table F (state_in rotation x row) key ≡ Some t → (t.piece ≡ piece) × (is_free F t ≡ true)
      goes key e = let there = step_of-free srs_table F (state_in rotation x row) key t e in (there.kind, there.free)

      by_shift : (key : Key) (move : Cell) → step_of srs_table F (state_in rotation x row) key ≡ Some t → shifted F (state_in rotation x row) move ≡ Some t →
          ((a b : ℕ) → moved_within (S rotation) N move.0 move.1 a b ≡ true → union (sideways N (S rotation)) (lower N (S rotation)) a b ≡ true) → IsInLanes piece S t
      by_shift key move step shift so =
          let there = goes key step in
          let target = lane_state_of t there.1 in
          let at_t = target.at in
          let below : target.y < N = omega (arith, ints) in
          let lifts = shift_lifts F (state_in rotation x row) move t shift in
          let free_there : free rotation target.x target.y ≡ true = subst (λ (r : Rotation). free r target.x target.y ≡ true) lifts.turn (free_in_lanes t target.x target.y there.0 there.1 target.column at_t below) in
          let beside = moves_beside rotation x row px y move t target.x target.y col at held lifts target.column at_t target.in_columns below in
          record { kind = there.0; x = target.x; column = target.column; y = target.y; at = at_t; held = subst (λ (r : Rotation). S r target.x target.y ≡ true) (sym lifts.turn) (closed.beside rotation target.x target.y (so target.x target.y beside) free_there) }

      by_turn : (key : Key) (to : Rotation) → step_of srs_table F (state_in rotation x row) key ≡ Some t → turned srs_table F (state_in rotation x row) to ≡ Some t →
          list_all (is_low_move piece rotation to) (kicks_of srs_table piece rotation to) ≡ true → ((a b : ℕ) → arrivals piece rotation to N (free to) (S rotation) empty_field a b ≡ true → S to a b ≡ true) → IsInLanes piece S t
      by_turn key to step turn small so =
          let there = goes key step in
          let target = lane_state_of t there.1 in
          let at_t = target.at in
          turn_held rotation to x row px y t target.x target.y small so col at held turn there.0 (turned-rotation F (state_in rotation x row) to t turn) target.column at_t target.in_columns (omega (arith, ints))

      by_key : (key : Key) → step_of srs_table F (state_in rotation x row) key ≡ Some t → IsInLanes piece S t
      by_key Left e = by_shift Left (minus 1, pos 0) e e (from_left rotation)
      by_key Right e = by_shift Right (pos 1, pos 0) e e (from_right rotation)
      by_key Down e = by_shift Down (pos 0, minus 1) e e (from_down rotation)
      by_key Clockwise e = by_turn Clockwise (clockwise_of rotation) e e (clockwise_low piece rotation) (closed.clockwise rotation)
      by_key Anti e = by_turn Anti (anticlockwise_of rotation) e e (anti_low piece rotation) (closed.anti rotation)

  -- the lane state of a state under the sky is on the board of the sky
  sky_held : (s : Placement) → s.piece ≡ piece → IsUnderSky F s → lane s <ℤ pos N → IsInLanes piece S s
  unfolding moved
  sky_held s kind sky low =
      let c = canonical_rotation s.piece s.rotation in
      let m = canonical_move s.piece s.rotation in
      let at = canonical_pivot s sky.inside in
      let q : Placement = record { piece = s.piece; rotation = c; x = at.x; y = at.y } in
      let sky_q = sky_same F s q (same_cells-sym (found_cells q s refl refl (sym at.is))) sky in
      let n = inside_lane s sky.inside in
      let is_y = n.is in
      let column : pos s.x +ℤ m.0 ≡ pos at.x = ap (λ (c : Cell). c.0) at.is in
      let row : pos s.y +ℤ m.1 ≡ pos at.y = ap (λ (c : Cell). c.1) at.is in
      let floors = class_lane s.piece s.rotation in
      let is_q : lane q ≡ pos n.n = omega (arith, ints) in
      let below : n.n < N = omega (arith, ints) in
      let map_q : IsLaneMap F s.piece c N (free s.rotation) = subst (λ (p : Piece). IsLaneMap F p (canonical_rotation p s.rotation) N (free s.rotation)) (sym kind) (is s.rotation) in
      let fits : r ≤ N = omega arith in
      let board = (sky_board-exact F r N clear fits few q n.n is_q (free s.rotation) map_q below).1 sky_q in
      record { kind = kind; x = at.x; column = column; y = n.n; at = is_y; held = closed.sky s.rotation at.x n.n (subst (λ (p : Piece). sky_board p (canonical_rotation p s.rotation) N (free s.rotation) at.x n.n ≡ true) kind board) }

  -- closed boards whose states keys lead to are a flood below lane N
  pub lanes_flood : ((s : Placement) → IsInLanes piece S s → IsKeyed srs_table F Soft s) → IsFloodBelow N F piece (IsInLanes piece S)
  unfolding state_in
  lanes_flood sound = record {
    kind = λ s here. here.kind;
    below = λ s here. let at = here.at in let bounds = (lies s.rotation).inside here.x here.y here.held in omega (arith, ints, bounds.1);
    sky = sky_held;
    closed = next_held;
    sound = sound;
  }
    where
      next_held : (s t : Placement) (key : Key) → IsInLanes piece S s → step_of srs_table F s key ≡ Some t → lane t <ℤ pos N → IsInLanes piece S t
      next_held s t key here e low =
          let same : s ≡ record { piece = piece; rotation = s.rotation; x = s.x; y = s.y } = λ i. record { piece = here.kind i; rotation = s.rotation; x = s.x; y = s.y } in
          let floors : lowest (shape s.piece s.rotation) ≡ lowest (shape piece s.rotation) = λ i. lowest (shape (here.kind i) s.rotation) in
          let moves : (canonical_move s.piece s.rotation).0 ≡ (canonical_move piece s.rotation).0 = λ i. (canonical_move (here.kind i) s.rotation).0 in
          let at = here.at in
          let col = here.column in
          key_held s.rotation s.x s.y here.x here.y key t (omega (arith, ints)) (omega (arith, ints)) here.held (subst (λ (u : Placement). step_of srs_table F u key ≡ Some t) same e) low
