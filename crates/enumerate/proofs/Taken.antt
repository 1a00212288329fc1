-- What is left of a flood's places once the least of them is taken out.
use Rattle.std.proofs.Common.{◌≡◌, ◌↔◌, ◌≢◌, Bool, true, false, ◌&&◌, List, [], ◌∷◌, refl, sym, ap, subst, ◌∙◌, rules}
use Rattle.std.specs.Prelude.{Contains, Option, Some, None, IsTrue, MatchOption, filter, find}
use Rattle.std.specs.Bool.{one_answer}
use Rattle.std.specs.Option.{ForSome}
use Rattle.std.specs.Cmp.{tied_itself}
use Rattle.std.specs.Ordering.{is_lt, ordering_reverse}
use Rattle.std.specs.declared.cmp.Ordering.{Ordering}
use Rattle.std.specs.declared.cmp.Ordering.TheVariants.{Less, Equal, Greater}
use Rattle.std.proofs.lemmas.Bool.{and_from, and_parts}
use Rattle.std.proofs.lemmas.List.Kept.{IsStrictlySortedBy-filter}
use Rattle.srs.specs.declared.placement.Placement.{Placement}
use Rattle.srs.specs.Order.{placement_cmp}
use Rattle.srs.specs.Placements.{placements_of}
use Rattle.srs.proofs.CallerLemmas.{placement_cmp-antisymmetric, placement_cmp-total, placements_of-list, Contains-filter, Contains-from_filter, filter_above-next, filter_above-none, find-next_of, IsNextAbove-unique, some_same}
use Rattle.srs.specs.Rising.{is_above, IsNextAbove, IsLeastAbove, IsRisingListOf}
use Rattle.well.specs.Well.{filled}
use Rattle.well.specs.LockLaws.{is_below}
use Rattle.place_sets.specs.declared.low_held.LowPlaces.{LowPlaces}
use Rattle.place_sets.specs.LowPlaces.{holds, piece_of}
use Rattle.hold_queue.specs.QueueSet.{queues_in_play}
use Rattle.enumerate.specs.Frames.{places_left}
use Rattle.enumerate.specs.Setups.{IsSupplyAfter, LeadsOn}
use Rattle.enumerate.specs.declared.frame.Frame.{Frame}
use Rattle.enumerate.specs.SearchState.{may_play}
use Rattle.enumerate.specs.Standing.{may_lock}
use Rattle.enumerate.proofs.PlaceLaws.{lockable-piece}
use Rattle.enumerate.proofs.TryLemmas.{filter-both, filter-same}

-- what places hold is among the placements of their piece
abbrev pub Listed : LowPlaces → Type 0
Listed places = (q : Placement) → holds places q ≡ true → Contains (placements_of (piece_of places)) q

module _ (places : LowPlaces) (listed : Listed places) where
  abbrev held : List Placement
  held = filter (holds places) (placements_of (piece_of places))

  held-list : IsRisingListOf placement_cmp (λ q. holds places q ≡ true) held
  held-list =
      search (rules, (IsStrictlySortedBy-filter placement_cmp (holds places) (placements_of (piece_of places)) (placements_of-list (piece_of places)).rising), (Contains-from_filter (holds places) (placements_of (piece_of places))), (Contains-filter (holds places) (placements_of (piece_of places))))

  -- the next of the held placements is the first of those that are left
  pub next-first : (last r : Option Placement) → IsNextAbove placement_cmp (λ q. holds places q ≡ true) last r →
      MatchOption r (places_left (Some places) last ≡ []) (λ q. places_left (Some places) last ≡ q ∷ places_left (Some places) (Some q))
  unfolding places_left
  next-first last r next = at r same
    where
      same : find (is_above placement_cmp last) held ≡ r
      same = IsNextAbove-unique placement_cmp placement_cmp-total placement_cmp-antisymmetric (λ q. holds places q ≡ true) last (find (is_above placement_cmp last) held) r
          (find-next_of placement_cmp placement_cmp-total (λ q. holds places q ≡ true) last held held-list) next

      at : (r : Option Placement) → find (is_above placement_cmp last) held ≡ r →
          MatchOption r (filter (λ q. holds places q && is_above placement_cmp last q) (placements_of (piece_of places)) ≡ [])
          (λ q. filter (λ q. holds places q && is_above placement_cmp last q) (placements_of (piece_of places)) ≡ q ∷ filter (λ p. holds places p && is_above placement_cmp (Some q) p) (placements_of (piece_of places)))
      at None e = filter-both (holds places) (is_above placement_cmp last) (placements_of (piece_of places)) ∙ filter_above-none placement_cmp placement_cmp-total last held e
      at (Some q) e = search (rules, (filter-both (holds places) (is_above placement_cmp last) (placements_of (piece_of places))), (filter_above-next placement_cmp placement_cmp-total last held q held-list.rising e), (filter-both (holds places) (is_above placement_cmp (Some q)) (placements_of (piece_of places))))

-- one is taken out, or none where none is held
module _ (old new : LowPlaces) (kind : piece_of new ≡ piece_of old) (taken : Option Placement)
    (rest : (q : Placement) → (holds new q ≡ true) ↔ ((holds old q ≡ true) × (taken ≢ Some q))) where
  pub taken-held : (q : Placement) → holds new q ≡ true → holds old q ≡ true
  taken-held q is = ((rest q).0 is).0

  -- what is above a bound stays, where the one that is taken out is not above it
  pub taken-same : (bound : Option Placement) → ((q : Placement) → taken ≡ Some q → is_above placement_cmp bound q ≡ false) → places_left (Some old) bound ≡ places_left (Some new) bound
  unfolding places_left
  taken-same bound under =
      ap (λ p. filter (λ q. holds old q && is_above placement_cmp bound q) (placements_of p)) (sym kind)
      ∙ filter-same (λ q. holds old q && is_above placement_cmp bound q) (λ q. holds new q && is_above placement_cmp bound q) (placements_of (piece_of new)) (λ q _.
      one_answer {P = (holds old q ≡ true) × (is_above placement_cmp bound q ≡ true)} (holds old q && is_above placement_cmp bound q) (holds new q && is_above placement_cmp bound q)
      (λ h. and_parts (holds old q) (is_above placement_cmp bound q) h, λ p. and_from (holds old q) (is_above placement_cmp bound q) p.0 p.1) (
        λ h. let both = and_parts (holds new q) (is_above placement_cmp bound q) h in (taken-held q both.0, both.1),
        λ p. and_from (holds new q) (is_above placement_cmp bound q) ((rest q).1 (p.0, λ e. let no = under q e in let yes = p.1 in cc)) p.1,
      ))

  -- the least of all is taken out
  module _ (q : Placement) (is : taken ≡ Some q) (least : IsLeastAbove placement_cmp (λ p. holds old p ≡ true) None q) where
    pub taken-above : places_left (Some old) (Some q) ≡ places_left (Some new) (Some q)
    taken-above = taken-same (Some q) (λ p e. subst (λ p. is_above placement_cmp (Some q) p ≡ false) (some_same (sym is ∙ e)) (ap is_lt (tied_itself placement_cmp-total q)))

    above-all : (p : Placement) → holds new p ≡ true → is_above placement_cmp (Some q) p ≡ true
    above-all p is_held = at (placement_cmp q p) refl
      where
        both : (holds old p ≡ true) × (taken ≢ Some p)
        both = (rest p).0 is_held

        at : (r : Ordering) → placement_cmp q p ≡ r → is_above placement_cmp (Some q) p ≡ true
        at Less e = ap is_lt e
        at Equal e = absurd (both.1 (is ∙ ap Some (placement_cmp-antisymmetric q p e)))
        at Greater e = absurd (least.least p both.0 refl (placement_cmp-total.antisymm p q ∙ ap ordering_reverse e))

    pub taken-rest : places_left (Some new) None ≡ places_left (Some new) (Some q)
    unfolding places_left
    taken-rest = filter-same (λ p. holds new p && true) (λ p. holds new p && is_above placement_cmp (Some q) p) (placements_of (piece_of new)) (λ p _. at p (holds new p) refl)
      where
        at : (p : Placement) (b : Bool) → holds new p ≡ b → (b && true) ≡ (b && is_above placement_cmp (Some q) p)
        at p true e = sym (above-all p e)
        at p false e = refl

-- what is taken out at a frame may be entered there
pub upcoming-taken : (frame : Frame) (places new : LowPlaces) → frame.places ≡ Some places → piece_of new ≡ piece_of places → (r : Option Placement)
    → MatchOption r ((places_left (Some places) frame.entered ≡ []) × (places_left (Some new) frame.entered ≡ []))
    (λ q. (places_left (Some places) frame.entered ≡ q ∷ places_left (Some new) (Some q)) × IsTrue (holds places q))
    → MatchOption r ((places_left frame.places frame.entered ≡ []) × (places_left (Some new) frame.entered ≡ []))
    (λ q. (places_left frame.places frame.entered ≡ q ∷ places_left (Some new) (Some q)) × ForSome (Some new) (λ p. q.piece ≡ piece_of p)
    × IsTrue (may_lock (filled frame.setup.well) q.piece q) × IsTrue (is_below frame.setup.rows q) × IsTrue (may_play (queues_in_play frame.setup.line.queues) q.piece)
    × IsSupplyAfter frame.setup q.piece frame.next_supply × (IsTrue frame.are_live → LeadsOn frame.setup q))
upcoming-taken frame places new is kind h5 next = search (rules, lockable-piece, some_same)
