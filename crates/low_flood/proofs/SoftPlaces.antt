-- The canonical placements that rest at lane states of a soft flood are the places of a soft drop.
use Rattle.std.proofs.Common.{◌≡◌, ◌↔◌, ◌⊎◌, ℕ, zero, suc, ◌+◌, ◌-◌, ◌%◌, ◌<◌, ◌≤◌, true, ◌==◌, ℤ, pos, ◌+ℤ◌, refl, sym, ap, subst, ◌∙◌, inl, inr, arith, rules}
use Rattle.std.specs.Prelude.{◌<ℤ◌, IsTrue, nat_le}
use Rattle.std.specs.List.{list_all}
use Rattle.std.proofs.lemmas.Int.{ints}
use Rattle.std.proofs.lemmas.Bool.{and_parts, and_from, cases_Bool, cond-true, cond-false, eqb-true, leb-true, false≢true}
use Rattle.lane_board.specs.Field.{Field, empty_field, intersection}
use Rattle.lane_board.specs.Lanes.{is_lane_count}
use Rattle.srs.specs.declared.piece.Piece.{Piece}
use Rattle.srs.specs.declared.rotation.Rotation.{Rotation}
use Rattle.srs.specs.declared.rotation.Rotation.TheVariants.{Spawn, Right, Reverse, Left}
use Rattle.srs.specs.declared.placement.Placement.{Placement}
use Rattle.srs.specs.Canonical.{IsCanonical, canonical_rotation, canonical_move}
use Rattle.srs.specs.Cells.{Cell, moved, shape, pivot_of}
use Rattle.srs.specs.Kick.{srs_table, kicks_of}
use Rattle.srs.specs.Rotation.{clockwise_of, anticlockwise_of}
use Rattle.srs.specs.SameCells.{HasSameCells}
use Rattle.srs.proofs.CallerLemmas.{IsCanonical-from_test, is_canonical-from, canonical_pivot, canonical_unique, found_cells, found_canonical, same_cells-piece, same_cells-sym, same_cells-trans, rotation_index-injective}
use Rattle.well.specs.Free.{is_free}
use Rattle.well.proofs.CallerLemmas.{free_inside}
use Rattle.well.specs.LockLaws.{LiesBelow}
use Rattle.moves.specs.declared.key.Key.TheVariants.{Clockwise, Anti}
use Rattle.moves.specs.declared.key.DropMode.TheVariants.{Soft}
use Rattle.moves.specs.Place.{IsPlace}
use Rattle.moves.specs.Step.{turned}
use Rattle.moves.specs.RestingStates.{IsResting, IsKeyed}
use Rattle.moves.specs.Lanes.{lowest, lane}
use Rattle.moves.proofs.CallerLemmas.{soft_places, rest_lane, keyed_in}
use Rattle.low_flood.specs.LaneFlood.{Lanes, IsInLanes, IsLanesClosed}
use Rattle.low_flood.specs.LanePlaces.{IsCut, lane_pivots, has_own_cells}
use Rattle.low_flood.specs.LaneTurns.{arrivals}
use Rattle.place_sets.specs.States.{HasExactly, IsUnder, has_state}
use Rattle.low_flood.specs.SkyBoard.{IsLaneMap}
use Rattle.low_flood.specs.SoftLanes.{free_boards, skies, states_of_canonical, rests_in, soft_board, HaveAllRests, AreSpread, IsTurnedInto, IsRound, Rounds, IsSoftFlood}
use Rattle.low_flood.proofs.ClassLemmas.{class_lane, rests_same}
use Rattle.place_sets.proofs.CallerLemmas.{LiesWithin}
use Rattle.low_flood.proofs.LaneClosed.{lanes_flood}
use Rattle.low_flood.proofs.LaneMaps.{free_lanes-exact, resting_lanes-exact, free_here}
use Rattle.low_flood.proofs.LanePlaceLemmas.{cut_exact, lane_pivots-from, lane_pivots-to, free_within, own_is, own_within, pivots_within, resting_within}
use Rattle.low_flood.proofs.LaneSound.{IsAt, IsSoundBoard, state_of_lane, spread_sound, union_sound, sky_sound, arrivals_sound}
use Rattle.low_flood.proofs.LaneTurns.{free_lane, clockwise_low, anti_low, is_low_move}
use Rattle.low_flood.proofs.SoftLemmas.{begun_grows, round_closes, sky_is_free, IsLaneStateOf, states_of_canonical-from, states_of_canonical-has, in_rotation}

pub many_rows : (n : ℕ) → IsTrue (is_lane_count n) → 8 ≤ n
many_rows n is = leb-true 8 n (and_parts (nat_le 8 n) (nat_le n 32) (and_parts (n % 8 == 0) _ is).1).0

-- a rotation with cells of its own is canonical
pub own_canonical : (p : Piece) (r : Rotation) → has_own_cells p r ≡ true → canonical_rotation p r ≡ r
own_canonical p r own = rotation_index-injective _ r (eqb-true _ _ (sym (own_is p r) ∙ own))

back_clockwise : (r : Rotation) → clockwise_of (anticlockwise_of r) ≡ r
back_clockwise r = search rules

back_anti : (r : Rotation) → anticlockwise_of (clockwise_of r) ≡ r
back_anti r = search rules

low_clockwise : (p : Piece) (to : Rotation) → list_all (is_low_move p (anticlockwise_of to) to) (kicks_of srs_table p (anticlockwise_of to) to) ≡ true
low_clockwise p to = subst (λ (r : Rotation). list_all (is_low_move p (anticlockwise_of to) r) (kicks_of srs_table p (anticlockwise_of to) r) ≡ true) (back_clockwise to) (clockwise_low p (anticlockwise_of to))

low_anti : (p : Piece) (to : Rotation) → list_all (is_low_move p (clockwise_of to) to) (kicks_of srs_table p (clockwise_of to) to) ≡ true
low_anti p to = subst (λ (r : Rotation). list_all (is_low_move p (clockwise_of to) r) (kicks_of srs_table p (clockwise_of to) r) ≡ true) (back_anti to) (anti_low p (clockwise_of to))

module _ (F : Field) (rows N : ℕ) (clear : LiesBelow F rows) (over : rows + 2 ≤ N) (few : N ≤ 16) (piece : Piece) (free : Lanes)
    (is : (r : Rotation) → IsLaneMap F piece (canonical_rotation piece r) N (free r)) (lies : (r : Rotation) → LiesWithin (free r) N) where
  record AreSound (S : Lanes) : Type 0 where
    each : (r : Rotation) → IsSoundBoard F piece r (free r) (S r)

  sound_lies : (S : Lanes) → AreSound S → (r : Rotation) → LiesWithin (S r) N
  sound_lies S sound r = record { inside = λ x y held. (lies r).inside x y ((sound.each r).within.has x y held) }

  skies_sound : AreSound (skies piece N free)
  unfolding skies
  skies_sound = record { each = λ r. sky_sound F N piece r (free r) (is r) (lies r) rows clear over few (sky_is_free piece (canonical_rotation piece r) N (free r)) }

  start_sound : (S : Lanes) → (S ≡ skies piece N free) ⊎ AreSpread N free (skies piece N free) S → AreSound S
  start_sound S (inl same) = subst AreSound (sym same) skies_sound
  start_sound S (inr spread) = record { each = λ r. spread_sound F N piece r (free r) (is r) (lies r) (skies piece N free r) (S r) (spread.each r) (skies_sound.each r) }

  turned_sound : (to : Rotation) (S T : Lanes) → IsTurnedInto piece N free to S T → AreSound S → AreSound T
  turned_sound to S T turn sound = record {
    each = λ r. subst (λ (U : Lanes). IsSoundBoard F piece r (free r) (U r)) (sym turn.changed)
        (in_rotation (λ r B. IsSoundBoard F piece r (free r) B) S to turn.board
        (spread_sound F N piece to (free to) (is to) (lies to) _ turn.board turn.spread
        (union_sound F N piece to (free to) (is to) (lies to) (S to) _ (sound.each to)
        (union_sound F N piece to (free to) (is to) (lies to) _ _ by_clockwise by_anti)))
        sound.each r);
  }
    where
      by_clockwise : IsSoundBoard F piece to (free to) (arrivals piece (anticlockwise_of to) to N (free to) (S (anticlockwise_of to)) empty_field)
      by_clockwise =
          let from = anticlockwise_of to in
          arrivals_sound F rows N clear over few piece from to (free from) (free to) (is from) (is to) (lies from) (lies to) Clockwise
          (λ s turn_s. ap (λ (r : Rotation). turned srs_table F s r) (ap clockwise_of turn_s ∙ back_clockwise to)) (low_clockwise piece to) (S from) (sound.each from) (sound_lies S sound from)

      by_anti : IsSoundBoard F piece to (free to) (arrivals piece (clockwise_of to) to N (free to) (S (clockwise_of to)) empty_field)
      by_anti =
          let from = clockwise_of to in
          arrivals_sound F rows N clear over few piece from to (free from) (free to) (is from) (is to) (lies from) (lies to) Anti
          (λ s turn_s. ap (λ (r : Rotation). turned srs_table F s r) (ap anticlockwise_of turn_s ∙ back_anti to)) (low_anti piece to) (S from) (sound.each from) (sound_lies S sound from)

  round_sound : (S T : Lanes) → IsRound piece N free S T → AreSound S → AreSound T
  round_sound S T round sound =
      turned_sound Left round.three T round.left (turned_sound Reverse round.two round.three round.reverse (turned_sound Right round.one round.two round.right (turned_sound Spawn S round.one round.spawn sound)))

  rounds_sound : (n : ℕ) (S T : Lanes) → Rounds n piece N free S T → AreSound S → AreSound T
  rounds_sound zero S T e sound = subst AreSound e sound
  rounds_sound (suc n) S T way sound = round_sound way.0 T way.1.1 (rounds_sound n S way.0 way.1.0 sound)

  -- a flood is sound, and closed or with all rests
  flood_sound : (S : Lanes) → IsSoftFlood piece N free S → AreSound S
  flood_sound S flood = rounds_sound flood.rounds flood.start S flood.reached (start_sound flood.start flood.begun)

  flood_ends : (S : Lanes) → IsSoftFlood piece N free S → HaveAllRests piece N free S ⊎ IsLanesClosed piece N free S
  flood_ends S flood = elim flood.ends [
    | inl all ↦ inl all
    | inr still ↦ inr (round_closes piece N free S still (begun_grows piece N free S flood))
  ]

  -- the canonical placement with a state's cells has its lane state
  lane_state_same : (s q : Placement) (x y : ℕ) → HasSameCells s q → IsCanonical q → is_free F s ≡ true → IsAt s x y → (q.x ≡ x) × (lane q ≡ pos y) × (canonical_rotation s.piece s.rotation ≡ q.rotation)
  unfolding moved
  lane_state_same s q x y same canonical s_free at =
      let pivot = canonical_pivot s (free_inside F s s_free) in
      let t : Placement = record { piece = s.piece; rotation = canonical_rotation s.piece s.rotation; x = pivot.x; y = pivot.y } in
      let e = canonical_unique t q (found_canonical t s refl refl) canonical (same_cells-trans (found_cells t s refl refl (sym pivot.is)) same) in
      let p : pos s.x +ℤ (canonical_move s.piece s.rotation).0 ≡ pos pivot.x = ap (λ (c : Cell). c.0) pivot.is in
      let r : pos s.y +ℤ (canonical_move s.piece s.rotation).1 ≡ pos pivot.y = ap (λ (c : Cell). c.1) pivot.is in
      let floors = class_lane s.piece s.rotation in
      let col = at.column in
      let row = at.at in
      let column : pivot.x ≡ x = omega (arith, ints) in
      let lane_t : lane t ≡ pos y = omega (arith, ints) in
      (sym (ap (λ (t : Placement). t.x) e) ∙ column, sym (ap lane e) ∙ lane_t, ap (λ (t : Placement). t.rotation) e)

  module _ (S : Lanes) (flood : IsSoftFlood piece N free S) (q : Placement) (kind : q.piece ≡ piece) where
    map_q : has_own_cells piece q.rotation ≡ true → IsLaneMap F q.piece q.rotation N (free q.rotation)
    map_q own = subst (λ (p : Piece). IsLaneMap F p q.rotation N (free q.rotation)) (sym kind) (subst (λ (r : Rotation). IsLaneMap F piece r N (free q.rotation)) (own_canonical piece q.rotation own) (is q.rotation))

    rests_exact : has_own_cells piece q.rotation ≡ true → (y : ℕ) → lane q ≡ pos y → y < N → (rests_in N free q.rotation q.x y ≡ true) ↔ (IsResting F q × (free q.rotation q.x y ≡ true))
    unfolding rests_in
    rests_exact own y at below =
        resting_lanes-exact F N q y at below (free q.rotation) (free q.rotation) (map_q own) (lies q.rotation) (λ held. sym (here_free own y at below) ∙ held)
      where
        here_free : has_own_cells piece q.rotation ≡ true → (y : ℕ) → lane q ≡ pos y → y < N → free q.rotation q.x y ≡ is_free F q
        here_free own y at below = free_here F N q y at below (free q.rotation) (map_q own)

    free_q : has_own_cells piece q.rotation ≡ true → (y : ℕ) → lane q ≡ pos y → y < N → is_free F q ≡ true → free q.rotation q.x y ≡ true
    free_q own y at below q_free = free_here F N q y at below (free q.rotation) (map_q own) ∙ q_free

    abbrev board : Field
    board = lane_pivots piece q.rotation (intersection (rests_in N free q.rotation) (states_of_canonical piece S q.rotation))

    there : soft_board piece N free S q.rotation q.x q.y ≡ true → IsPlace srs_table F Soft q
    unfolding soft_board empty_field intersection moved
    there held = elim (cases_Bool (has_own_cells piece q.rotation)) [
      | inr other ↦ absurd (false≢true (sym (ap (λ (G : Field). G q.x q.y) (cond-false _ board empty_field other)) ∙ held))
      | inl own ↦
          let on_board : lane_pivots q.piece q.rotation (intersection (rests_in N free q.rotation) (states_of_canonical piece S q.rotation)) q.x q.y ≡ true =
          ap (λ (p : Piece). lane_pivots p q.rotation (intersection (rests_in N free q.rotation) (states_of_canonical piece S q.rotation)) q.x q.y) kind ∙ sym (ap (λ (G : Field). G q.x q.y) (cond-true _ board empty_field own)) ∙ held in
          let here = lane_pivots-from (intersection (rests_in N free q.rotation) (states_of_canonical piece S q.rotation)) q on_board in
          let parts = and_parts (rests_in N free q.rotation q.x here.y) (states_of_canonical piece S q.rotation q.x here.y) here.held in
          from_lane_state own here.y here.at (states_of_canonical-from piece S q.rotation q.x here.y parts.1) parts.0
    ]
      where
        from_lane_state : has_own_cells piece q.rotation ≡ true → (y : ℕ) → lane q ≡ pos y → IsLaneStateOf piece S q.rotation q.x y → rests_in N free q.rotation q.x y ≡ true → IsPlace srs_table F Soft q
        from_lane_state own y at at_lane rests =
            let sound = (flood_sound S flood).each at_lane.r in
            let filled = sound.within.has q.x y at_lane.held in
            let below = (lies at_lane.r).inside q.x y filled in
            let s = state_of_lane F N piece at_lane.r (free at_lane.r) (is at_lane.r) (lies at_lane.r) q.x y filled in
            let resting = ((rests_exact own y at below.1).0 rests).0 in
            let pivot = canonical_pivot s.s (free_inside F s.s s.is_free_there) in
            let floors = class_lane s.s.piece s.s.rotation in
            let turn : q.rotation ≡ canonical_rotation s.s.piece s.s.rotation = sym at_lane.canonical ∙ (λ i. canonical_rotation (sym s.kind i) (sym s.turn i)) in
            let lows : lowest (shape q.piece q.rotation) ≡ lowest (shape s.s.piece (canonical_rotation s.s.piece s.s.rotation)) = (λ i. lowest (shape (kind i) (turn i))) ∙ ap (λ (p : Piece). lowest (shape p (canonical_rotation s.s.piece s.s.rotation))) (sym s.kind) in
            let col = s.at.column in
            let row = s.at.at in
            let p : pos s.s.x +ℤ (canonical_move s.s.piece s.s.rotation).0 ≡ pos q.x = col in
            let r : pos s.s.y +ℤ (canonical_move s.s.piece s.s.rotation).1 ≡ pos q.y = omega (arith, ints) in
            let cells = found_cells q s.s (kind ∙ sym s.kind) turn (same_pivot p r) in
            (soft_places srs_table F q).1 (record {
              canonical = IsCanonical-from_test q (ap (λ (p : Piece). has_own_cells p q.rotation) kind ∙ own);
              state = s.s;
              rests = rests_same F q s.s cells resting;
              holds = sound.keyed s.s q.x y s.kind s.turn s.at at_lane.held;
              same_cells = same_cells-sym cells;
            })
          where
            same_pivot : {a b c d : ℤ} → a ≡ c → b ≡ d → ◌≡◌ {A = Cell} (c, d) (a, b)
            same_pivot e f = let g = sym e in let h = sym f in λ i. (g i, h i)

    back : IsPlace srs_table F Soft q → soft_board piece N free S q.rotation q.x q.y ≡ true
    unfolding soft_board intersection rests_in moved
    back place =
        let found = (soft_places srs_table F q).0 place in
        let s = found.state in
        let own : has_own_cells piece q.rotation ≡ true = ap (λ (p : Piece). has_own_cells p q.rotation) (sym kind) ∙ is_canonical-from q found.canonical in
        let resting = rests_same F s q found.same_cells found.rests in
        let n = free_lane F q.piece q.rotation (pivot_of q) resting.free in
        let is_n = n.is in
        let low = rest_lane F rows clear q resting in
        let below : n.n < N = omega (arith, ints) in
        let filled = free_q own n.n is_n below resting.free in
        let rests = (rests_exact own n.n is_n below).1 (resting, filled) in
        let held = held_there found.state found.rests.free found.same_cells found.canonical found.holds n.n is_n below rests own in
        let in_lanes : LiesWithin (intersection (rests_in N free q.rotation) (states_of_canonical piece S q.rotation)) N = record {
          inside = λ x y both. (resting_within N (free q.rotation) (free q.rotation) (lies q.rotation)).inside x y (and_parts (rests_in N free q.rotation x y) _ both).0;
        } in
        ap (λ (G : Field). G q.x q.y) (cond-true _ board empty_field own)
        ∙ ap (λ (p : Piece). lane_pivots p q.rotation (intersection (rests_in N free q.rotation) (states_of_canonical piece S q.rotation)) q.x q.y) (sym kind)
        ∙ lane_pivots-to (intersection (rests_in N free q.rotation) (states_of_canonical piece S q.rotation)) N q few in_lanes (record { y = n.n; at = is_n; held = and_from _ _ rests held })
      where
        held_there : (s : Placement) → is_free F s ≡ true → HasSameCells s q → IsCanonical q → IsKeyed srs_table F Soft s → (y : ℕ) → lane q ≡ pos y → y < N → rests_in N free q.rotation q.x y ≡ true → has_own_cells piece q.rotation ≡ true → states_of_canonical piece S q.rotation q.x y ≡ true
        held_there s s_free same canonical keyed y at below rests own = elim (flood_ends S flood) [
          | inl all ↦ all.each q.rotation q.x y own rests
          | inr closed ↦
              let kind_s = same_cells-piece s q same ∙ kind in
              let sound = flood_sound S flood in
              let closes = lanes_flood F rows N clear over few piece free S is closed (sound_lies S sound) (λ t here. (sound.each t.rotation).keyed t here.x here.y here.kind refl (record { column = here.column; at = here.at }) here.held) in
              let pivot = canonical_pivot s (free_inside F s s_free) in
              let m = free_lane F s.piece s.rotation (pivot_of s) s_free in
              let is_m = m.is in
              let at_s : IsAt s pivot.x m.n = record { column = ap (λ (c : Cell). c.0) pivot.is; at = is_m } in
              let same_lane_state = lane_state_same s q pivot.x m.n same canonical s_free at_s in
              let lane_q = same_lane_state.1 in
              let y_same : m.n ≡ y = omega (arith, ints) in
              let below_s : lane s <ℤ pos N = omega (arith, ints) in
              let here = keyed_in F rows N piece (IsInLanes piece S) clear over few closes s kind_s keyed below_s in
              let here_x = here.column in
              let here_y = here.at in
              let col_s = at_s.column in
              let x_is : here.x ≡ q.x = omega (arith, ints, same_lane_state.0) in
              let y_is : here.y ≡ y = omega (arith, ints) in
              let c_is : canonical_rotation piece s.rotation ≡ q.rotation = ap (λ (p : Piece). canonical_rotation p s.rotation) (sym kind_s) ∙ same_lane_state.2 in
              let at_lane = states_of_canonical-has piece S s.rotation here.x here.y here.held in
              subst (λ (c : Rotation). states_of_canonical piece S c q.x y ≡ true) c_is (subst (λ (b : ℕ). states_of_canonical piece S (canonical_rotation piece s.rotation) q.x b ≡ true) y_is (subst (λ (a : ℕ). states_of_canonical piece S (canonical_rotation piece s.rotation) a here.y ≡ true) x_is at_lane))
        ]

    pub soft_held : (soft_board piece N free S q.rotation q.x q.y ≡ true) ↔ IsPlace srs_table F Soft q
    soft_held = (there, back)

pub soft_within : (piece : Piece) (N : ℕ) (free S : Lanes) (rotation : Rotation) → LiesWithin (soft_board piece N free S rotation) 24
unfolding soft_board
soft_within piece N free S rotation = own_within (has_own_cells piece rotation) _ (pivots_within piece rotation _)

pub soft_by : (F : Field) (N M : ℕ) (piece : Piece) (free S T : Lanes) → LiesBelow F (N - 2) → 8 ≤ N → N ≤ 16 → LiesWithin F N → free ≡ free_boards piece N F → IsSoftFlood piece N free S → IsCut M (soft_board piece N free S) T → HasExactly (IsUnder M (IsPlace srs_table F Soft)) piece T
unfolding has_state free_boards
soft_by F N M piece free S T clear many few lies is_free flood cut =
    cut_exact M (IsPlace srs_table F Soft) piece (soft_board piece N free S) T (soft_within piece N free S)
    (record { exact = λ q kind. soft_held F (N - 2) N clear (omega arith) few piece free maps inside S flood q kind }) cut
  where
    maps : (r : Rotation) → IsLaneMap F piece (canonical_rotation piece r) N (free r)
    maps r = subst (λ (B : Lanes). IsLaneMap F piece (canonical_rotation piece r) N (B r)) (sym is_free) (free_lanes-exact F N lies few piece (canonical_rotation piece r))

    inside : (r : Rotation) → LiesWithin (free r) N
    inside r = subst (λ (B : Lanes). LiesWithin (B r) N) (sym is_free) (free_within piece (canonical_rotation piece r) N F)
