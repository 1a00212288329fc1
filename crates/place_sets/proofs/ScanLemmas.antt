-- The order of placements is that of their numbers, and a scan begins where the numbers do.
use Rattle.std.proofs.Common.{◌≡◌, ◌↔◌, ℕ, ◌+◌, ◌<◌, ◌≤◌, true, ◌==◌, ◌&&◌, Option, Some, None, refl, sym, ap, subst, ◌∙◌, ◌⊎◌, arith, rules}
use Rattle.std.specs.Prelude.{IsTrue, IfSome}
use Rattle.std.specs.Ordering.{ordering_then, nat_cmp}
use Rattle.std.specs.declared.cmp.Ordering.{Ordering}
use Rattle.std.specs.declared.cmp.Ordering.TheVariants.{Less}
use Rattle.std.proofs.lemmas.Bool.{cases_order, eq-eqb, eqb-true, and_parts, and_from}
use Rattle.std.specs.Cmp.{nat_cmp_is}
use Rattle.srs.specs.declared.piece.Piece.{Piece}
use Rattle.srs.specs.declared.placement.Placement.{Placement}
use Rattle.srs.specs.Piece.{piece_code}
use Rattle.srs.specs.Order.{placement_cmp}
use Rattle.srs.specs.Rising.{is_before, IsNextAbove}
use Rattle.srs.proofs.CallerLemmas.{piece_code-injective, below_is_less, is_before-decides, less_is_below, then_less}
use Rattle.place_sets.specs.declared.held.Places.{Places}
use Rattle.place_sets.specs.Places.{holds, piece_of}
use Rattle.place_sets.specs.States.{HasExactly, States, has_state}
use Rattle.place_sets.specs.Numbers.{states_in}
use Rattle.place_sets.specs.Scan.{state_number, IsStateFrom}
use Rattle.place_sets.proofs.PlaceNumbers.{number-within}

less_then : (m n : ℕ) (o : Ordering) → (m < n) ⊎ ((m ≡ n) × (o ≡ Less)) → ordering_then (nat_cmp m n) o ≡ Less
less_then m n o h3 = search (rules, below_is_less, nat_cmp_is)

-- a state whose column and row are bytes
pub record IsByte (s : Placement) : Type 0 where
  pub column : s.x < 256
  pub row : s.y < 256

pub number_less : (s t : Placement) → IsByte s → IsByte t → s.piece ≡ t.piece → placement_cmp s t ≡ Less → state_number s < state_number t
number_less s t p q kind less = search (rules, then_less, less_is_below)

pub less_number : (s t : Placement) → IsByte s → IsByte t → s.piece ≡ t.piece → state_number s < state_number t → placement_cmp s t ≡ Less
less_number s t p q kind less = search (rules, less_then, cases_order, below_is_less)

-- what the places hold
module _ (places : Places) where
  pub holds-parts : (q : Placement) → IsTrue (holds places q) → (q.piece ≡ places.piece) × (has_state (states_in places.numbers) q ≡ true)
  unfolding holds
  holds-parts q held = search (rules, and_parts, piece_code-injective, eqb-true)

  pub holds-from : (q : Placement) → q.piece ≡ places.piece → has_state (states_in places.numbers) q ≡ true → IsTrue (holds places q)
  unfolding holds
  holds-from q kind held = and_from _ _ (eq-eqb _ _ (ap (λ (p : Piece). piece_code p) kind)) held

  held_byte : (q : Placement) → has_state (states_in places.numbers) q ≡ true → IsByte q
  unfolding has_state
  held_byte q held = let inside = number-within places.numbers q.rotation q.x q.y held in record { column = omega (arith, inside.0); row = omega (arith, inside.1) }

  -- the least of all
  pub next_of_all : (result : Option Placement) → IsStateFrom (states_in places.numbers) places.piece 0 result → IsNextAbove placement_cmp (λ q. IsTrue (holds places q)) None result
  next_of_all None is = record { none = λ q held above. is.none q (omega arith) (holds-parts q held).1 }
  next_of_all (Some s) is = record {
    member = holds-from s is.kind is.held;
    above = refl;
    least = λ q held above less.
        let parts = holds-parts q held in
        let fewer = number_less q s (held_byte q parts.1) (held_byte s is.held) (parts.0 ∙ sym is.kind) less in
        omega (arith, fewer, is.first q (omega arith) parts.1);
  }

  after : (bound q : Placement) → IsByte bound → bound.piece ≡ places.piece → q.piece ≡ places.piece → has_state (states_in places.numbers) q ≡ true → IsTrue (is_before placement_cmp bound q) → state_number bound + 1 ≤ state_number q
  after bound q byte kind kind_q held above = omega (arith, number_less bound q byte (held_byte q held) (kind ∙ sym kind_q) ((is_before-decides placement_cmp bound q).0 above))

  -- the least above a bound
  pub next_above : (bound : Placement) (result : Option Placement) → IsByte bound → bound.piece ≡ places.piece → IsStateFrom (states_in places.numbers) places.piece (state_number bound + 1) result → IsNextAbove placement_cmp (λ q. IsTrue (holds places q)) (Some bound) result
  next_above bound None byte kind is = record {
    none = λ q held above.
        let parts = holds-parts q held in
        is.none q (after bound q byte kind parts.0 parts.1 above) parts.1;
  }
  next_above bound (Some s) byte kind is = record {
    member = holds-from s is.kind is.held;
    above = (is_before-decides placement_cmp bound s).1 (less_number bound s byte (held_byte s is.held) (kind ∙ sym is.kind) (omega (arith, is.after)));
    least = λ q held above less.
        let parts = holds-parts q held in
        let fewer = number_less q s (held_byte q parts.1) (held_byte s is.held) (parts.0 ∙ sym is.kind) less in
        omega (arith, fewer, is.first q (after bound q byte kind parts.0 parts.1 above) parts.1);
  }

-- the same, with the bound and the number given by equations
pub next_of_all_by : (places : Places) (bound result : Option Placement) → bound ≡ None → IsStateFrom (states_in places.numbers) places.piece 0 result → IsNextAbove placement_cmp (λ q. IsTrue (holds places q)) bound result
next_of_all_by places bound result e is = subst (λ (bound : Option Placement). IsNextAbove placement_cmp (λ q. IsTrue (holds places q)) bound result) (sym e) (next_of_all places result is)

pub next_above_by : (places : Places) (bound : Option Placement) (last : Placement) (n : ℕ) (result : Option Placement) → bound ≡ Some last → IfSome bound (λ q. q.piece ≡ piece_of places) → IsByte last → n ≡ state_number last + 1 → IsStateFrom (states_in places.numbers) places.piece n result → IsNextAbove placement_cmp (λ q. IsTrue (holds places q)) bound result
unfolding piece_of
next_above_by places bound last n result e kind byte number is =
    search (rules, (next_above places last result byte (subst (λ (bound : Option Placement). IfSome bound (λ q. q.piece ≡ piece_of places)) e kind) (subst (λ n. IsStateFrom (states_in places.numbers) places.piece n result) number is)))

-- what is held is of the piece
pub holds-piece : (places : Places) (q : Placement) → IsTrue (holds places q) → q.piece ≡ piece_of places
unfolding piece_of
holds-piece places q held = (holds-parts places q held).0

-- where a set has exactly the states of which P holds, the places of its states hold these
pub places_held : (P : Placement → Type 0) (piece : Piece) (S : States) (places : Places) → ((q : Placement) → holds places q ≡ (piece_code q.piece == piece_code piece && has_state S q)) →
    HasExactly P piece S → (q : Placement) → IsTrue (holds places q) ↔ ((q.piece ≡ piece) × P q)
places_held P piece S places is are q = search (rules, and_parts, piece_code-injective, eqb-true, and_from, eq-eqb)
