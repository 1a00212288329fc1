-- The canonical placements that rest under an open sky are the places of a hard drop.
use Rattle.std.proofs.Common.{◌≡◌, ◌↔◌, ℕ, ◌+◌, ◌<◌, ◌≤◌, ◌==◌, ◌≤ℤ◌, true, pos, ◌+ℤ◌, refl, sym, ap, subst, ◌∙◌, inl, inr, arith, rules}
use Rattle.std.specs.Prelude.{neg_ℤ, Bool, false, if◌then◌else◌}
use Rattle.std.proofs.lemmas.Int.{ints}
use Rattle.std.proofs.lemmas.Bool.{and_parts, and_from, cases_Bool, cond-true, cond-false, false≢true}
use Rattle.lane_board.specs.Field.{Field, empty_field, intersection, difference, moved_within, rows_below}
use Rattle.srs.specs.declared.piece.Piece.{Piece}
use Rattle.srs.specs.declared.rotation.Rotation.{Rotation}
use Rattle.srs.specs.declared.rotation.Rotation.TheVariants.{Spawn, Right, Reverse, Left}
use Rattle.srs.specs.declared.placement.Placement.{Placement}
use Rattle.srs.specs.Canonical.{canonical_rotation}
use Rattle.srs.specs.Cells.{Cell, moved, shape, pivot_of}
use Rattle.srs.specs.Kick.{srs_table}
use Rattle.srs.specs.Rotation.{rotation_index}
use Rattle.srs.proofs.CallerLemmas.{IsCanonical-from_test, is_canonical-from}
use Rattle.well.specs.Free.{is_free}
use Rattle.well.specs.LockLaws.{LiesBelow}
use Rattle.moves.specs.declared.key.DropMode.TheVariants.{Hard}
use Rattle.moves.specs.Place.{IsPlace}
use Rattle.moves.specs.Sky.{IsUnderSky}
use Rattle.moves.specs.RestingStates.{IsResting, IsRestWhere}
use Rattle.moves.specs.Lanes.{lowest, lane}
use Rattle.moves.proofs.CallerLemmas.{hard_places, lowest_near, near, rest_lane, sky_free}
use Rattle.low_flood.specs.LaneMap.{free_lanes, resting_lanes}
use Rattle.low_flood.specs.LanePlaces.{IsCut, lane_pivots, has_own_cells, hard_board}
use Rattle.place_sets.specs.States.{HasExactly, IsUnder, States, has_state}
use Rattle.low_flood.specs.SkyBoard.{IsLaneMap, inside_lanes, sky_board}
use Rattle.low_flood.proofs.ClassLemmas.{rests_same, sky_same}
use Rattle.lane_board.proofs.CallerLemmas.{same_from_both}
use Rattle.place_sets.proofs.CallerLemmas.{LiesWithin, moved_from, moved_to, same_fields}
use Rattle.low_flood.proofs.LaneMaps.{free_lanes-exact, from_rows, in_rows, resting_lanes-exact}
use Rattle.low_flood.proofs.LaneTurns.{free_lane}
use Rattle.low_flood.proofs.SkyBoards.{sky_board-exact}

-- the lane state of a state is held
pub record HasLaneState (S : Field) (s : Placement) : Type 0 where
  pub y : ℕ
  pub at : lane s ≡ pos y
  pub held : S s.x y ≡ true

-- a rotation has cells of its own exactly if it is canonical
pub own_is : (p : Piece) (r : Rotation) → has_own_cells p r ≡ (rotation_index (canonical_rotation p r) == rotation_index r)
own_is p r = search rules

pub cut_of_none : (row : ℕ) → empty_field ≡ intersection empty_field (rows_below row)
unfolding empty_field intersection
cut_of_none row = refl

-- the rows from row M on may be cut off before the cells are moved up, too
pub cut_before : (piece : Piece) (rotation : Rotation) (M : ℕ) (S : Field) → M ≤ 24 → pos 0 ≤ℤ neg_ℤ (lowest (shape piece rotation)) →
    moved_within (intersection S (rows_below M)) M (pos 0) (neg_ℤ (lowest (shape piece rotation))) ≡ intersection (lane_pivots piece rotation S) (rows_below M)
unfolding lane_pivots intersection moved moved_within
cut_before piece rotation M S few rises = same_fields _ _ (λ x y. same_from_both _ _ (there x y) (back x y))
  where
    there : (x y : ℕ) → moved_within (intersection S (rows_below M)) M (pos 0) (neg_ℤ (lowest (shape piece rotation))) x y ≡ true → intersection (lane_pivots piece rotation S) (rows_below M) x y ≡ true
    there x y held =
        let way = moved_from (intersection S (rows_below M)) M (pos 0, neg_ℤ (lowest (shape piece rotation))) x y held in
        let parts = and_parts (S way.from_x way.from_y) _ way.filled in
        let from = from_rows M way.from_x way.from_y parts.1 in
        let bounds = from_rows M x y (and_parts (rows_below M x y) _ held).0 in
        and_from _ _ (moved_to (intersection S (rows_below 24)) 24 (pos 0, neg_ℤ (lowest (shape piece rotation))) way.from_x way.from_y x y (and_from _ _ parts.0 (in_rows 24 _ _ from.0 (omega (arith, from.1)))) way.there bounds.0 (omega (arith, bounds.1))) (in_rows M x y bounds.0 bounds.1)

    back : (x y : ℕ) → intersection (lane_pivots piece rotation S) (rows_below M) x y ≡ true → moved_within (intersection S (rows_below M)) M (pos 0) (neg_ℤ (lowest (shape piece rotation))) x y ≡ true
    back x y held =
        let both = and_parts (lane_pivots piece rotation S x y) _ held in
        let bounds = from_rows M x y both.1 in
        let way = moved_from (intersection S (rows_below 24)) 24 (pos 0, neg_ℤ (lowest (shape piece rotation))) x y both.0 in
        let parts = and_parts (S way.from_x way.from_y) _ way.filled in
        let e : pos way.from_y +ℤ (neg_ℤ (lowest (shape piece rotation))) ≡ pos y = ap (λ (c : Cell). c.1) way.there in
        let from = from_rows 24 way.from_x way.from_y parts.1 in
        let low : way.from_y < M = omega (arith, ints, bounds.1, rises) in
        moved_to (intersection S (rows_below M)) M (pos 0, neg_ℤ (lowest (shape piece rotation))) way.from_x way.from_y x y (and_from _ _ parts.0 (in_rows M _ _ from.0 low)) way.there bounds.0 bounds.1

pub lane_pivots-from : (S : Field) (q : Placement) → lane_pivots q.piece q.rotation S q.x q.y ≡ true → HasLaneState S q
unfolding lane_pivots intersection moved
lane_pivots-from S q filled =
    let up = neg_ℤ (lowest (shape q.piece q.rotation)) in
    let way = moved_from (intersection S (rows_below 24)) 24 (pos 0, up) q.x q.y filled in
    let p : pos way.from_x +ℤ pos 0 ≡ pos q.x = ap (λ (c : Cell). c.0) way.there in
    let e : pos way.from_y +ℤ neg_ℤ (lowest (shape q.piece q.rotation)) ≡ pos q.y = ap (λ (c : Cell). c.1) way.there in
    let column : way.from_x ≡ q.x = omega (arith, ints) in
    let held = (and_parts (S way.from_x way.from_y) (rows_below 24 way.from_x way.from_y) way.filled).0 in
    record { y = way.from_y; at = omega (arith, ints); held = subst (λ (x : ℕ). S x way.from_y ≡ true) column held }

pub lane_pivots-to : (S : Field) (N : ℕ) (q : Placement) → N ≤ 16 → LiesWithin S N → HasLaneState S q → lane_pivots q.piece q.rotation S q.x q.y ≡ true
unfolding lane_pivots intersection moved
lane_pivots-to S N q few lies here =
    let up = neg_ℤ (lowest (shape q.piece q.rotation)) in
    let bounds = lies.inside q.x here.y here.held in
    let at = here.at in
    let small = lowest_near q.piece q.rotation in
    let p : pos q.x +ℤ pos 0 ≡ pos q.x = omega (arith, ints) in
    let e : pos here.y +ℤ neg_ℤ (lowest (shape q.piece q.rotation)) ≡ pos q.y = omega (arith, ints) in
    let top : q.y < 24 = omega (arith, ints, bounds.1) in
    moved_to (intersection S (rows_below 24)) 24 (pos 0, up) q.x here.y q.x q.y (and_from (S q.x here.y) _ here.held (in_rows 24 q.x here.y bounds.0 (omega (arith, bounds.1)))) (λ i. (p i, e i)) bounds.0 top

pub pivots_within : (piece : Piece) (rotation : Rotation) (S : Field) → LiesWithin (lane_pivots piece rotation S) 24
unfolding lane_pivots moved_within
pivots_within piece rotation S = record { inside = λ x y held. from_rows 24 x y (and_parts (rows_below 24 x y) _ held).0 }

pub own_within : (own : Bool) (F : Field) → LiesWithin F 24 → LiesWithin (if own then F else empty_field) 24
unfolding empty_field
own_within true F lies = lies
own_within false F lies = record { inside = λ x y held. absurd (false≢true held) }

pub each_cut : (M : ℕ) (S T : States) → T Spawn ≡ intersection (S Spawn) (rows_below M) → T Right ≡ intersection (S Right) (rows_below M)
    → T Reverse ≡ intersection (S Reverse) (rows_below M) → T Left ≡ intersection (S Left) (rows_below M) → IsCut M S T
each_cut M S T spawn right reverse left = search rules

-- what is cut off leaves the states below row M
pub cut_exact : (M : ℕ) (P : Placement → Type 0) (piece : Piece) (S T : States) → ((rotation : Rotation) → LiesWithin (S rotation) 24) → HasExactly P piece S → IsCut M S T → HasExactly (IsUnder M P) piece T
unfolding has_state intersection
cut_exact M P piece S T lies are cut = search (rules, and_parts, from_rows, and_from, in_rows)

-- the free lane states lie on the lanes, and what rests among lane states does so too
pub free_within : (piece : Piece) (rotation : Rotation) (N : ℕ) (F : Field) → LiesWithin (free_lanes piece rotation N F) N
unfolding free_lanes difference inside_lanes
free_within piece rotation N F = search (rules, from_rows, and_parts)

pub sky_within : (piece : Piece) (rotation : Rotation) (N : ℕ) (free : Field) → LiesWithin (sky_board piece rotation N free) N
unfolding sky_board difference inside_lanes
sky_within piece rotation N free = search (rules, from_rows, and_parts)

pub resting_within : (N : ℕ) (free S : Field) → LiesWithin S N → LiesWithin (resting_lanes N free S) N
unfolding resting_lanes difference
resting_within N free S lies = record { inside = λ x y held. lies.inside x y (and_parts (S x y) _ held).0 }

module _ (F : Field) (r N : ℕ) (clear : LiesBelow F r) (over : r + 2 ≤ N) (few : N ≤ 16) (lies : LiesWithin F N) (q : Placement) where
  free : Field
  free = free_lanes q.piece q.rotation N F

  sky : Field
  sky = sky_board q.piece q.rotation N free

  is : IsLaneMap F q.piece q.rotation N free
  unfolding free
  is = free_lanes-exact F N lies few q.piece q.rotation

  -- the lane of a free state
  at_lane : IsResting F q → (y : ℕ) × (lane q ≡ pos y) × (y < N)
  at_lane rests =
      let n = free_lane F q.piece q.rotation (pivot_of q) rests.free in
      let e = n.is in
      let low = rest_lane F r clear q rests in
      (n.n, e, omega (arith, ints))

  rests_in_sky : (y : ℕ) → lane q ≡ pos y → y < N → (resting_lanes N free sky q.x y ≡ true) ↔ (IsResting F q × IsUnderSky F q)
  unfolding free sky
  rests_in_sky y at below =
      let exact = sky_board-exact F r N clear (omega arith) few q y at free is below in
      let rest = resting_lanes-exact F N q y at below free sky is (free_within q.piece q.rotation N F) (λ held. sky_is_free (exact.0 held)) in
      (λ held. let parts = rest.0 held in (parts.0, exact.0 parts.1), λ found. rest.1 (found.0, exact.1 found.1))
    where
      sky_is_free : IsUnderSky F q → is_free F q ≡ true
      sky_is_free under =
          let by = near q in
          let none : q.y + 0 ≡ q.y = omega arith in
          subst (λ (y : ℕ). is_free F (record { piece = q.piece; rotation = q.rotation; x = q.x; y = y }) ≡ true) none (sky_free F q under 0 (omega (arith, ints, by.low)))

  abbrev board : Field
  board = lane_pivots q.piece q.rotation (resting_lanes N free sky)

  pub hard_held : (hard_board q.piece N F q.rotation q.x q.y ≡ true) ↔ IsPlace srs_table F Hard q
  unfolding hard_board empty_field free sky
  hard_held = (there, back)
    where
      law : IsPlace srs_table F Hard q ↔ IsRestWhere F (IsUnderSky F) q
      law = hard_places F r q clear (omega arith)

      there : hard_board q.piece N F q.rotation q.x q.y ≡ true → IsPlace srs_table F Hard q
      there held = elim (cases_Bool (has_own_cells q.piece q.rotation)) [
        | inl own ↦
            let here = lane_pivots-from (resting_lanes N free sky) q (sym (ap (λ (G : Field). G q.x q.y) (cond-true _ board empty_field own)) ∙ held) in
            let bounds = (resting_within N free sky (sky_within q.piece q.rotation N free)).inside q.x here.y here.held in
            let found = (rests_in_sky here.y here.at bounds.1).0 here.held in
            law.1 (record { canonical = IsCanonical-from_test q own; state = q; rests = found.0; holds = found.1; same_cells = record { same = λ cell. refl } })
        | inr other ↦ absurd (false≢true (sym (ap (λ (G : Field). G q.x q.y) (cond-false _ board empty_field other)) ∙ held))
      ]

      back : IsPlace srs_table F Hard q → hard_board q.piece N F q.rotation q.x q.y ≡ true
      back place =
          let found = law.0 place in
          let rests = rests_same F found.state q found.same_cells found.rests in
          let at = at_lane rests in
          let held = (rests_in_sky at.0 at.1 at.2).1 (rests, sky_same F found.state q found.same_cells found.holds) in
          ap (λ (G : Field). G q.x q.y) (cond-true _ board empty_field (is_canonical-from q found.canonical))
          ∙ lane_pivots-to (resting_lanes N free sky) N q few (resting_within N free sky (sky_within q.piece q.rotation N free)) (record { y = at.0; at = at.1; held = held })

pub hard_within : (piece : Piece) (N : ℕ) (F : Field) (rotation : Rotation) → LiesWithin (hard_board piece N F rotation) 24
unfolding hard_board
hard_within piece N F rotation = own_within (has_own_cells piece rotation) _ (pivots_within piece rotation _)
