-- The folded resting states of a flood from the spawn are the places.
use Rattle.std.proofs.Common.{◌≡◌, ℕ, ◌↔◌, true, pos, Some, List, refl, sym, ap, subst, ◌∙◌, arith, rules}
use Rattle.lane_board.specs.Field.{Field, has_cell}
use Rattle.srs.specs.declared.piece.Piece.{Piece}
use Rattle.srs.specs.declared.rotation.Rotation.{Rotation}
use Rattle.srs.specs.declared.placement.Placement.{Placement}
use Rattle.srs.specs.Cells.{moved, pivot_of}
use Rattle.srs.specs.Canonical.{IsCanonical, canonical_rotation, canonical_move}
use Rattle.srs.specs.SameCells.{HasSameCells}
use Rattle.srs.specs.Kick.{Table}
use Rattle.srs.proofs.CallerLemmas.{canonical_pivot, canonical_unique, found_cells, found_canonical, LiesAt, same_cells-sym, same_cells-trans}
use Rattle.well.specs.Free.{is_free_at, is_free}
use Rattle.well.proofs.CallerLemmas.{free_inside}
use Rattle.moves.specs.declared.key.Key.{Key}
use Rattle.moves.specs.declared.key.DropMode.{DropMode}
use Rattle.moves.specs.Leads.{state_after}
use Rattle.moves.specs.Rest.{IsRest, rest_from}
use Rattle.moves.specs.Place.{IsPlace}
use Rattle.moves.proofs.CallerLemmas.{leads-free, rest_of-is, rest_of-only}
use Rattle.place_sets.specs.States.{States, has_state, has_pivot}
use Rattle.whole_flood.specs.Started.{started}
use Rattle.whole_flood.specs.Folded.{folded}
use Rattle.whole_flood.specs.FreePivots.{IsFreeMap}
use Rattle.whole_flood.specs.Rested.{AreRested}
use Rattle.whole_flood.specs.Flood.{IsFlood}
use Rattle.place_sets.proofs.CallerLemmas.{LiesWithin, IsWithin, state_of}
use Rattle.whole_flood.proofs.KeyLemmas.{ground, reached_by_keys, keys_reach}
use Rattle.whole_flood.proofs.RestLemmas.{RestsThere, rest_held, held_rest}
use Rattle.whole_flood.proofs.FoldLemmas.{FoldsTo, folded-from, folded-has}

module _ (table : Table) (F : Field) (mode : DropMode) (piece : Piece) (free reached R : States) (is : IsFreeMap F piece free) (lies : (r : Rotation) → LiesWithin (free r) 24)
    (flood : IsFlood (ground table F mode piece free is) (started free) reached) (rested : AreRested 24 free reached R) where
  free_exact : (r : Rotation) (x y : ℕ) → is_free_at F piece r (pos x, pos y) ≡ free r x y
  unfolding has_pivot has_cell
  free_exact r x y = is.exact r (pos x, pos y)

  -- keys lead to free states of the piece
  keys_free : (s : Placement) (keys : List Key) → state_after table F piece keys ≡ Some s → (s.piece ≡ piece) × (is_free F s ≡ true)
  keys_free s keys e = let there = leads-free table F piece keys s e in (there.kind, there.free)

  reached_free : (r : Rotation) → IsWithin (reached r) (free r)
  unfolding has_state
  reached_free r = record {
    has = λ x y held.
        let way = reached_by_keys table F mode piece free is (state_of piece r x y) ((flood.exact (state_of piece r x y) refl).0 held) in
        sym (free_exact r x y) ∙ (keys_free (state_of piece r x y) way.keys way.reached).1;
  }

  place_from : (q : Placement) → q.piece ≡ piece → has_state (folded piece 24 R) q ≡ true → IsPlace table F mode q
  unfolding has_state
  place_from q kind held =
      let found = folded-from piece 24 R q held in
      from_resting found.0 found.1
    where
      from_state : (r : Rotation) (x y from : ℕ) → reached r x from ≡ true → rest_from F piece r x from ≡ state_of piece r x y → q.rotation ≡ canonical_rotation piece r → pivot_of q ≡ moved (pos x, pos y) (canonical_move piece r) → IsPlace table F mode q
      from_state r x y from starts rests turn pivot =
          let s = state_of piece r x from in
          let rest = state_of piece r x y in
          let way = reached_by_keys table F mode piece free is s ((flood.exact s refl).0 starts) in
          let s_free = (keys_free s way.keys way.reached).1 in
          record {
            canonical = found_canonical q rest kind turn;
            keys = way.keys;
            led_to = record {
              allowed = way.allowed;
              state = s;
              reached = subst (λ p. state_after table F p way.keys ≡ Some s) (sym kind) way.reached;
              rest = rest;
              rests = subst (IsRest F s) rests (rest_of-is F s s_free);
              same_cells = same_cells-sym (found_cells q rest kind turn pivot);
            };
          }

      from_resting : (r : Rotation) → FoldsTo piece R r q → IsPlace table F mode q
      from_resting r way =
          let back = held_rest 24 (free r) (reached r) (reached_free r) (R r) (lies r) (rested.each r) F piece r (free_exact r) way.x way.y way.rests in
          from_state r way.x way.y back.0 back.1 back.2 way.turn (sym way.pivot)

  -- a resting state is folded into the canonical placement with its cells
  folds : (r : Rotation) (x y : ℕ) (q : Placement) → R r x y ≡ true → free r x y ≡ true → IsCanonical q → HasSameCells (state_of piece r x y) q → has_state (folded piece 24 R) q ≡ true
  folds r x y q rests is_free canonical same =
      let t = state_of piece r x y in
      let inside = free_inside F t (free_exact r x y ∙ is_free) in
      let at : LiesAt (moved (pos x, pos y) (canonical_move piece r)) = canonical_pivot t inside in
      let found = state_of piece (canonical_rotation piece r) at.x at.y in
      let cells = same_cells-trans (found_cells found t refl refl (sym at.is)) same in
      subst (λ q. has_state (folded piece 24 R) q ≡ true) (canonical_unique found q (found_canonical found t refl refl) canonical cells)
      (folded-has piece 24 R r found (omega (arith, at.in_columns)) (omega (arith, at.in_rows)) (record { x = x; y = y; rests = rests; turn = refl; pivot = at.is }))

  place_to : (q : Placement) → q.piece ≡ piece → IsPlace table F mode q → has_state (folded piece 24 R) q ≡ true
  unfolding has_state
  place_to q kind place =
      let led = place.led_to in
      let s = led.state in
      let keys_lead = subst (λ p. state_after table F p place.keys ≡ Some s) kind led.reached in
      let s_free = keys_free s place.keys keys_lead in
      let s_reached = (flood.exact s s_free.0).1 (keys_reach table F mode piece free is s place.keys led.allowed keys_lead) in
      let rest_is : led.rest ≡ rest_from F piece s.rotation s.x s.y = rest_of-only F s led.rest s_free.1 led.rests ∙ ap (λ (p : Piece). rest_from F p s.rotation s.x s.y) s_free.0 in
      let there = rest_held 24 (free s.rotation) (reached s.rotation) (reached_free s.rotation) (R s.rotation) (lies s.rotation) (rested.each s.rotation) F piece s.rotation (free_exact s.rotation) s.x s.y s_reached in
      from_rest s.rotation s.x (rest_from F piece s.rotation s.x s.y) there (subst (λ rest. HasSameCells rest q) rest_is led.same_cells) place.canonical
    where
      from_rest : (r : Rotation) (x : ℕ) (rest : Placement) → RestsThere 24 (free r) (reached r) (reached_free r) (R r) (lies r) (rested.each r) F piece r (free_exact r) x rest → HasSameCells rest q → IsCanonical q → has_state (folded piece 24 R) q ≡ true
      from_rest r x rest there same canonical = search (rules, there.kind, there.turn, there.column, folds)

  pub places_exact : (q : Placement) → q.piece ≡ piece → (has_state (folded piece 24 R) q ≡ true) ↔ IsPlace table F mode q
  places_exact q kind = (place_from q kind, place_to q kind)

-- the same, with what the code finds given by equations
pub places_by : (table : Table) (F : Field) (mode : DropMode) (piece : Piece) (B : Field) (free S reached R H : States) → ((r : Rotation) → LiesWithin (free r) 24) → B ≡ F → IsFreeMap B piece free → S ≡ started free →
    IsFlood (record { table = table; piece = piece; mode = mode; free = free }) S reached → AreRested 24 free reached R → H ≡ folded piece 24 R → (q : Placement) → q.piece ≡ piece → (has_state H q ≡ true) ↔ IsPlace table F mode q
places_by table F mode piece B free S reached R H lies same is starts flood rested folds q kind =
    let free_map = subst (λ (F : Field). IsFreeMap F piece free) same is in
    let from_spawn = subst (λ (S : States). IsFlood (record { table = table; piece = piece; mode = mode; free = free }) S reached) starts flood in
    let exact = places_exact table F mode piece free reached R free_map lies from_spawn rested q kind in
    (λ held. exact.0 (subst (λ (H : States). has_state H q ≡ true) folds held), λ place. subst (λ (H : States). has_state H q ≡ true) (sym folds) (exact.1 place))
