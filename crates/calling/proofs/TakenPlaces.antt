-- Of the places that are held one is taken out after the other, the first of their rising list each time.
use Rattle.std.proofs.Common.{◌≡◌, ◌≢◌, ◌↔◌, ℕ, Bool, ◌+◌, ◌<◌, ◌≤◌, List, [], ◌∷◌, length, filter, refl, sym, ap, subst, ◌∙◌, inl, inr, arith, rules}
use Rattle.std.specs.Prelude.{Contains, IsTrue, Option, Some, None}
use Rattle.std.specs.Cmp.{IsTotalOrder, tied_itself}
use Rattle.std.specs.FinMap.{IsAntisymmetric}
use Rattle.std.specs.Ordering.{ordering_reverse}
use Rattle.std.specs.declared.cmp.Ordering.{Ordering}
use Rattle.std.specs.declared.cmp.Ordering.TheVariants.{Less, Equal, Greater}
use Rattle.std.proofs.lemmas.List.Sums.{length-filter, count_by-le-length}
use Rattle.lane_board.specs.Field.{Field}
use Rattle.srs.specs.Rising.{IsLeastAbove, IsRisingListOf, NoneAbove}
use Rattle.srs.proofs.CallerLemmas.{Contains-cases, Contains-here, Contains-there, IsRisingListOf-filter, IsRisingListOf-unique, rising-cons, some_same, placement_cmp-antisymmetric, placement_cmp-total, placements_of-list}
use Rattle.srs.specs.declared.piece.Piece.{Piece}
use Rattle.srs.specs.declared.placement.Placement.{Placement}
use Rattle.srs.specs.Kick.{Table}
use Rattle.srs.specs.Order.{placement_cmp}
use Rattle.srs.specs.Placements.{IsCanonicalInside, placements_by_pivot, placements_of}
use Rattle.well.proofs.CallerLemmas.{free_inside}
use Rattle.moves.specs.declared.key.DropMode.{DropMode}
use Rattle.moves.specs.Place.{IsPlace}
use Rattle.moves.proofs.CallerLemmas.{place-free}
use Rattle.place_sets.specs.declared.held.Places.{Places}
use Rattle.place_sets.specs.Places.{holds, piece_of}
use Rattle.calling.specs.Counts.{IsPlaceCount}

-- the least is taken out
module _ {A : Type 0} (cmp : A → A → Ordering) (total : IsTotalOrder cmp) (antisymmetric : IsAntisymmetric cmp) (Old New : A → Type 0) (q : A)
    (least : IsLeastAbove cmp Old None q) (rest : (p : A) → New p ↔ (Old p × (q ≢ p))) where
  comes_later : (p : A) → New p → cmp q p ≡ Less
  comes_later p is = at (cmp q p) refl
    where
      at : (r : Ordering) → cmp q p ≡ r → cmp q p ≡ Less
      at Less e = e
      at Equal e = absurd (((rest p).0 is).1 (antisymmetric q p e))
      at Greater e = absurd (least.least p ((rest p).0 is).0 refl (total.antisymm p q ∙ ap ordering_reverse e))

  taken_first : (xs ys : List A) → IsRisingListOf cmp Old xs → IsRisingListOf cmp New ys → xs ≡ q ∷ ys
  taken_first xs ys old new = IsRisingListOf-unique cmp total Old xs (q ∷ ys) old (record {
    rising = rising-cons cmp q ys (λ p among. comes_later p ((new.members p).0 among)) new.rising;
    members = λ p. (
      λ among. elim (Contains-cases q ys p among) [
        | inl here ↦ subst Old here least.member
        | inr there ↦ ((rest p).0 ((new.members p).0 there)).0
      ],
      λ is. listed p is (cmp q p) refl,
    );
  })
    where
      listed : (p : A) → Old p → (r : Ordering) → cmp q p ≡ r → Contains (q ∷ ys) p
      listed p is Less e = Contains-there q ys p ((new.members p).1 ((rest p).1 (is, λ same. let tied = tied_itself total q in cc)))
      listed p is Equal e = subst (Contains (q ∷ ys)) (antisymmetric q p e) (Contains-here q ys)
      listed p is Greater e = absurd (least.least p is refl (total.antisymm p q ∙ ap ordering_reverse e))

-- where none is there, the list is empty
none_listed : {A : Type 0} (cmp : A → A → Ordering) (Old : A → Type 0) (xs : List A) → IsRisingListOf cmp Old xs → NoneAbove cmp Old None → xs ≡ []
none_listed cmp Old [] old none = refl
none_listed cmp Old (x ∷ xs) old none = absurd (none.none x ((old.members x).0 (Contains-here x xs)) refl)

-- the rising list of what is held, where all of that is canonical and inside
abbrev pub HoldsInside : Places → Type 0
HoldsInside places = (q : Placement) → IsTrue (holds places q) → IsCanonicalInside (piece_of places) q

abbrev pub held_list : Places → List Placement
held_list places = filter (holds places) (placements_of (piece_of places))

held_list-is : (places : Places) → HoldsInside places → IsRisingListOf placement_cmp (λ q. IsTrue (holds places q)) (held_list places)
held_list-is places inside =
    let list = IsRisingListOf-filter placement_cmp placement_cmp-total (IsCanonicalInside (piece_of places)) (holds places) (placements_of (piece_of places)) (placements_of-list (piece_of places)) in
    record {
      rising = list.rising;
      members = λ q. (λ among. ((list.members q).0 among).1, λ is. (list.members q).1 (inside q is, is));
    }

-- what is kept of a list, and again of that, is no more than the list
kept_twice : {A : Type 0} (again test : A → Bool) (xs : List A) → length (filter again (filter test xs)) ≤ length xs
kept_twice again test xs = search (rules, length-filter, count_by-le-length)

-- so a piece has no more placements than pivots
pivots : (piece : Piece) → length (placements_by_pivot piece) ≡ 920
pivots piece = refl

held_few : (places : Places) → length (held_list places) ≤ 920
unfolding placements_of
held_few places = search (rules, pivots, kept_twice)

-- so many of some places were taken out
pub record IsCounted (start now : Places) (count : ℕ) : Type 0 where
  pub inside : HoldsInside now
  pub whole : count + length (held_list now) ≡ length (held_list start)

-- what a flood holds
abbrev pub IsHeld : Places → Table → Field → DropMode → Piece → Type 0
IsHeld places table F mode piece = (q : Placement) → (IsTrue (holds places q)) ↔ ((q.piece ≡ piece) × IsPlace table F mode q)

module _ (places : Places) (table : Table) (F : Field) (mode : DropMode) (piece : Piece) (kind : piece_of places ≡ piece) (held : IsHeld places table F mode piece) where
  held_inside : HoldsInside places
  held_inside q is =
      let place = (held q).0 is in
      record { kind = place.0 ∙ sym kind; canonical = place.1.canonical; inside = free_inside F q (place-free table F mode q place.1) }

  pub begins : IsCounted places places 0
  begins = record { inside = held_inside; whole = omega arith }

  pub counts_all : (now : Places) (count : ℕ) → IsCounted places now count → NoneAbove placement_cmp (λ q. IsTrue (holds now q)) None → IsPlaceCount table F mode piece count
  counts_all now count is none =
      let list = held_list-is places held_inside in
      let empty = ap length (none_listed placement_cmp (λ q. IsTrue (holds now q)) (held_list now) (held_list-is now is.inside) none) in
      let whole = is.whole in
      record {
        places = held_list places;
        listed = record {
          rising = list.rising;
          members = λ q. (λ among. (held q).0 ((list.members q).0 among), λ place. (list.members q).1 ((held q).1 place));
        };
        counted = omega (arith, whole, empty);
      }

module _ (start old new : Places) (count : ℕ) (is : IsCounted start old count) (kind : piece_of new ≡ piece_of old) (q : Placement)
    (least : IsLeastAbove placement_cmp (λ p. IsTrue (holds old p)) None q)
    (rest : (p : Placement) → IsTrue (holds new p) ↔ (IsTrue (holds old p) × (◌≢◌ {A = Option Placement} (Some q) (Some p)))) where
  left_inside : HoldsInside new
  left_inside p held = subst (λ piece. IsCanonicalInside piece p) (sym kind) (is.inside p ((rest p).0 held).0)

  one_fewer : length (held_list old) ≡ 1 + length (held_list new)
  one_fewer =
      ap length (taken_first placement_cmp placement_cmp-total placement_cmp-antisymmetric (λ p. IsTrue (holds old p)) (λ p. IsTrue (holds new p)) q least
      (λ p. (
        λ held. (((rest p).0 held).0, λ same. ((rest p).0 held).1 (ap Some same)),
        λ both. (rest p).1 (both.0, λ same. both.1 (some_same same)),
      ))
      (held_list old) (held_list new) (held_list-is old is.inside) (held_list-is new left_inside))
      ∙ omega arith

  pub goes_on : IsCounted start new (count + 1)
  goes_on = let whole = is.whole in let one = one_fewer in record { inside = left_inside; whole = omega (arith, whole, one) }

  pub fewer_left : length (held_list new) < length (held_list old)
  fewer_left = let one = one_fewer in omega (arith, one)

  pub has_room : count + 1 < 65536
  has_room = let whole = is.whole in let one = one_fewer in let few = held_few start in omega (arith, whole, one, few)
