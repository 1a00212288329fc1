-- Where two tables have the same offsets for a piece, they have the same places of it.
use Rattle.std.proofs.Common.{◌≡◌, ◌↔◌, ℕ, ◌≤◌, Some, None, List, [], ◌∷◌, Option, ◌-ℤ◌, refl, sym, ap, subst, ◌∙◌, arith}
use Rattle.std.specs.Prelude.{fold}
use Rattle.lane_board.specs.Field.{Field}
use Rattle.srs.specs.declared.piece.Piece.{Piece}
use Rattle.srs.specs.declared.rotation.Rotation.{Rotation}
use Rattle.srs.specs.declared.placement.Placement.{Placement}
use Rattle.srs.specs.Cells.{moved, pivot_of}
use Rattle.srs.specs.Kick.{Table, offset_in, kick_in}
use Rattle.srs.specs.Rotation.{clockwise_of, anticlockwise_of}
use Rattle.moves.specs.declared.key.Key.{Key}
use Rattle.moves.specs.declared.key.Key.TheVariants as Press
use Rattle.moves.specs.declared.key.DropMode.{DropMode}
use Rattle.moves.specs.Leads.{pressed, spawned, state_after}
use Rattle.moves.specs.Place.{IsPlace}
use Rattle.moves.specs.Step.{first_free, kicked, turned, step_of}
use Rattle.moves.proofs.CallerLemmas.{spawned-free, step_of-free}
use Rattle.place_sets.specs.States.{HasExactly, States}
use Rattle.reach.specs.SameOffsets.{HaveSameOffsets}

pub same_back : (table other : Table) (piece : Piece) → HaveSameOffsets table other piece → HaveSameOffsets other table piece
same_back table other piece same = record { each = λ rotation test low high. sym (same.each rotation test low high) }

module _ (table other : Table) (F : Field) (piece : Piece) (same : HaveSameOffsets table other piece) where
  kicked_same : (s : Placement) (to : Rotation) → s.piece ≡ piece → kicked table s to ≡ kicked other s to
  kicked_same s to kind = λ i. at 1 (omega arith) (omega arith) i ∷ at 2 (omega arith) (omega arith) i ∷ at 3 (omega arith) (omega arith) i ∷ at 4 (omega arith) (omega arith) i ∷ at 5 (omega arith) (omega arith) i ∷ []
    where
      offset : (rotation : Rotation) (test : ℕ) → 1 ≤ test → test ≤ 5 → offset_in table s.piece rotation test ≡ offset_in other s.piece rotation test
      offset rotation test low high = subst (λ (p : Piece). offset_in table p rotation test ≡ offset_in other p rotation test) (sym kind) (same.each rotation test low high)

      at : (test : ℕ) → 1 ≤ test → test ≤ 5 → moved (pivot_of s) (kick_in table s.piece s.rotation to test) ≡ moved (pivot_of s) (kick_in other s.piece s.rotation to test)
      at test low high =
          let left = offset s.rotation test low high in
          let reached = offset to test low high in
          λ i. moved (pivot_of s) ((left i).0 -ℤ (reached i).0, (left i).1 -ℤ (reached i).1)

  step_same : (s : Placement) (key : Key) → s.piece ≡ piece → step_of table F s key ≡ step_of other F s key
  unfolding turned
  step_same s Press.Left kind = refl
  step_same s Press.Right kind = refl
  step_same s Press.Down kind = refl
  step_same s Press.Clockwise kind = ap (first_free F s.piece (clockwise_of s.rotation)) (kicked_same s (clockwise_of s.rotation) kind)
  step_same s Press.Anti kind = ap (first_free F s.piece (anticlockwise_of s.rotation)) (kicked_same s (anticlockwise_of s.rotation) kind)

  keys_same : (keys : List Key) (start : Option Placement) → ((s : Placement) → start ≡ Some s → s.piece ≡ piece) → fold (pressed table F) start keys ≡ fold (pressed other F) start keys
  keys_same [] start kinds = refl
  keys_same (key ∷ keys) None kinds = keys_same keys None kinds
  keys_same (key ∷ keys) (Some s) kinds =
      let kind = kinds s refl in
      keys_same keys (step_of table F s key) (λ t e. (step_of-free table F s key t e).kind ∙ kind)
      ∙ ap (λ (o : Option Placement). fold (pressed other F) o keys) (step_same s key kind)

pub place_same : (table other : Table) (F : Field) (mode : DropMode) (q : Placement) → HaveSameOffsets table other q.piece → IsPlace table F mode q → IsPlace other F mode q
unfolding state_after
place_same table other F mode q same place = record {
  canonical = place.canonical;
  keys = place.keys;
  led_to = record {
    allowed = place.led_to.allowed;
    state = place.led_to.state;
    reached = sym (keys_same table other F q.piece same place.keys (spawned F q.piece) (λ s e. (spawned-free F q.piece s e).kind)) ∙ place.led_to.reached;
    rest = place.led_to.rest;
    rests = place.led_to.rests;
    same_cells = place.led_to.same_cells;
  };
}

-- so the places by the one are the places by the other
pub place_both : (table other : Table) (F : Field) (mode : DropMode) (piece : Piece) → HaveSameOffsets table other piece → (q : Placement) → q.piece ≡ piece → IsPlace other F mode q ↔ IsPlace table F mode q
place_both table other F mode piece offsets q kind =
    let same : HaveSameOffsets table other q.piece = subst (HaveSameOffsets table other) (sym kind) offsets in
    (place_same other table F mode q (same_back table other q.piece same), place_same table other F mode q same)

pub places_same : (table other : Table) (F : Field) (mode : DropMode) (piece : Piece) (S : States) → HaveSameOffsets table other piece → HasExactly (IsPlace other F mode) piece S → HasExactly (IsPlace table F mode) piece S
places_same table other F mode piece S offsets are = record {
  exact = λ q kind.
      let both = place_both table other F mode piece offsets q kind in
      let exact = are.exact q kind in
      (λ has. both.0 (exact.0 has), λ place. exact.1 (both.1 place));
}
