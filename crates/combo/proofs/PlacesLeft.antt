-- The places that are left after a placement.
use Rattle.std.proofs.Common.{◌≡◌, ◌<◌, List, length, ap, sym, subst, ◌∙◌, arith, Option, Some, ◌↔◌, rules}
use Rattle.std.specs.Prelude.{IsTrue, filter, find}
use Rattle.std.proofs.lemmas.Option.{same_Some}
use Rattle.lane_board.specs.Field.{Field}
use Rattle.srs.specs.Rising.{is_above, IsLeastAbove, IsNextAbove, NoneAbove, IsRisingListOf}
use Rattle.srs.proofs.CallerLemmas.{IsNextAbove-unique, IsRisingListOf-filter, filter_above-next, find-next_of, placement_cmp-total, placement_cmp-antisymmetric, placements_of-list}
use Rattle.srs.specs.declared.piece.Piece.{Piece}
use Rattle.srs.specs.declared.placement.Placement.{Placement}
use Rattle.srs.specs.Kick.{Table}
use Rattle.srs.specs.Order.{placement_cmp}
use Rattle.srs.specs.Placements.{IsCanonicalInside, placements_of}
use Rattle.well.proofs.CallerLemmas.{free_inside}
use Rattle.moves.specs.declared.key.DropMode.{DropMode}
use Rattle.moves.specs.Place.{IsPlace}
use Rattle.place_sets.specs.declared.held.Places.{Places}
use Rattle.place_sets.specs.Places.{holds, piece_of}
use Rattle.moves.proofs.CallerLemmas.{place-free}

abbrev pub places_left : Places → Option Placement → List Placement
places_left places entered = filter (is_above placement_cmp entered) (filter (holds places) (placements_of (piece_of places)))

-- a placement that a list of places holds is canonical and inside
abbrev pub HoldsInside : Places → Type 0
HoldsInside places = (q : Placement) → IsTrue (holds places q) → IsCanonicalInside (piece_of places) q

-- after the next placement fewer places are left
pub fewer_left : (places : Places) (bound : Option Placement) (q : Placement) → HoldsInside places
    → IsLeastAbove placement_cmp (λ p. IsTrue (holds places p)) bound q → length (places_left places (Some q)) < length (places_left places bound)
fewer_left places bound q inside least =
    let Member : Placement → Type 0 = λ p. IsCanonicalInside (piece_of places) p × IsTrue (holds places p) in
    let list = filter (holds places) (placements_of (piece_of places)) in
    let rising : IsRisingListOf placement_cmp Member list =
    IsRisingListOf-filter placement_cmp placement_cmp-total (IsCanonicalInside (piece_of places)) (holds places) (placements_of (piece_of places)) (placements_of-list (piece_of places)) in
    let next : IsNextAbove placement_cmp Member bound (Some q) =
    record { member = (inside q least.member, least.member); above = least.above; least = λ p member. least.least p member.1 } in
    let found : find (is_above placement_cmp bound) list ≡ Some q =
    IsNextAbove-unique placement_cmp placement_cmp-total placement_cmp-antisymmetric Member bound (find (is_above placement_cmp bound) list) (Some q) (find-next_of placement_cmp placement_cmp-total Member bound list rising) next in
    let split = filter_above-next placement_cmp placement_cmp-total bound list q rising.rising found in
    omega (arith, ap length split)

-- what a list of places holds
abbrev pub IsHeld : Places → Table → Field → DropMode → Piece → Type 0
IsHeld places table F mode piece = (q : Placement) → (IsTrue (holds places q)) ↔ ((q.piece ≡ piece) × IsPlace table F mode q)

pub held_inside : (places : Places) (table : Table) (F : Field) (mode : DropMode) (piece : Piece) → piece_of places ≡ piece → IsHeld places table F mode piece → HoldsInside places
held_inside places table F mode piece is held q holds_q = search (rules, free_inside, place-free)

pub least_place : (places : Places) (table : Table) (F : Field) (mode : DropMode) (piece : Piece) (copied bound : Option Placement) (q : Placement) → IsHeld places table F mode piece → copied ≡ bound
    → IsLeastAbove placement_cmp (λ p. IsTrue (holds places p)) copied q → IsLeastAbove placement_cmp (λ p. (p.piece ≡ piece) × IsPlace table F mode p) bound q
least_place places table F mode piece copied bound q held same least = search rules

pub none_place : (places : Places) (table : Table) (F : Field) (mode : DropMode) (piece : Piece) (copied bound : Option Placement) → IsHeld places table F mode piece → copied ≡ bound
    → NoneAbove placement_cmp (λ p. IsTrue (holds places p)) copied → NoneAbove placement_cmp (λ p. (p.piece ≡ piece) × IsPlace table F mode p) bound
none_place places table F mode piece copied bound held same none = search rules

pub least_held : (places : Places) (copied bound : Option Placement) (q : Placement) → copied ≡ bound
    → IsLeastAbove placement_cmp (λ p. IsTrue (holds places p)) copied q → IsLeastAbove placement_cmp (λ p. IsTrue (holds places p)) bound q
least_held places copied bound q same least = subst (λ b. IsLeastAbove placement_cmp (λ p. IsTrue (holds places p)) b q) same least

pub kind_kept : (q : Placement) (piece : Piece) → q.piece ≡ piece → (x : Placement) → ◌≡◌ {A = Option Placement} (Some q) (Some x) → x.piece ≡ piece
kind_kept q piece kind x same = ap (λ (p : Placement). p.piece) (sym (same_Some q x same)) ∙ kind
