-- The families after one more piece is played, by the four ways to play it.
use Rattle.std.proofs.Common.{◌≡◌, ℕ, ◌+◌, ◌<◌, ◌≤◌, true, ◌||◌, Option, Some, None, List, [], ◌∷◌, Contains, refl, ◌∙◌, sym, subst, inl, inr, ◌⊎◌, arith, rules}
use Rattle.std.proofs.lemmas.Bool.{or_cases, or_left, or_right}
use Rattle.srs.specs.declared.piece.Piece.{Piece}
use Rattle.srs.specs.declared.piece.Piece.TheVariants.{I, L, O, Z, T, J, S}
use Rattle.srs.proofs.CallerLemmas.{some_same, Contains-cases, Contains-none}
use Rattle.queue_pattern.specs.declared.element.Element.{Element}
use Rattle.hold_queue.specs.declared.family.Draw.{Draw}
use Rattle.hold_queue.specs.declared.family.Family.{Family}
use Rattle.hold_queue.specs.declared.hold.Hold.{Hold}
use Rattle.hold_queue.specs.declared.hold.Hold.TheVariants.{Allowed, Avoided}
use Rattle.hold_queue.specs.Family.{has_set, IsDrawn}
use Rattle.hold_queue.specs.Permits.{Way, plain, exchange, first_hold, last}
use Rattle.hold_queue.specs.States.{in_progress, rests, drawn_by, family_at, IsRemainder, IsRoomy, CameBy, IsNextFamily, FollowsHeld, IsHeldFamily, Stands}
use Rattle.hold_queue.specs.AtHand.{count_held}
use Rattle.hold_queue.proofs.RestLemmas.{in_element, rests-done}
use Rattle.hold_queue.proofs.DrawnRests.{moves-back, rest-on, rest-back, roomy-on, begins-none}

-- the sets of two families
pub record IsUnion (f g both : Family) : Type 0 where
  pub each : (set : ℕ) → set < 128 → has_set both set ≡ (has_set f set || has_set g set)

pub union-from : {elements : List Element} {drawn : ℕ} {queue : List Piece} (f g both : Family) → IsUnion f g both
    → IsRemainder elements drawn both queue → IsRemainder elements drawn f queue ⊎ IsRemainder elements drawn g queue
union-from f g both union rest = search (rules, or_cases)

pub union-left : {elements : List Element} {drawn : ℕ} {queue : List Piece} (f g both : Family) → IsUnion f g both → IsRemainder elements drawn f queue → IsRemainder elements drawn both queue
union-left f g both union rest = record { drawn_set = rest.drawn_set; within = rest.within; has = union.each rest.drawn_set rest.within ∙ or_left _ _ rest.has; there = rest.there }

pub union-right : {elements : List Element} {drawn : ℕ} {queue : List Piece} (f g both : Family) → IsUnion f g both → IsRemainder elements drawn g queue → IsRemainder elements drawn both queue
union-right f g both union rest = record { drawn_set = rest.drawn_set; within = rest.within; has = union.each rest.drawn_set rest.within ∙ or_right _ _ rest.has; there = rest.there }

union-cases : (f g both : Family) → IsUnion f g both → (set : ℕ) → set < 128 → has_set both set ≡ true → (has_set f set ≡ true) ⊎ (has_set g set ≡ true)
union-cases f g both union set within has = or_cases (has_set f set) (has_set g set) (sym (union.each set within) ∙ has)

pub union-roomy : (elements : List Element) (drawn : ℕ) (f g both : Family) → IsUnion f g both → IsRoomy elements drawn f → IsRoomy elements drawn g → IsRoomy elements drawn both
union-roomy elements drawn f g both union one two = search (rules, union-cases)

-- at most one piece is held
pub count_held-small : (held : Option Piece) → count_held held ≤ 1
count_held-small held = search rules

module _ (elements : List Element) (start : Option Piece) (states : List ℕ) (played : ℕ) (so_far : Stands elements start states played) where
  -- a family after one draw by which what is held changes from one to another, whose number is the same or one more
  abbrev Counts : Option Piece → ℕ → Type 0
  Counts held next = (set : ℕ) → set < 128 → has_set (family_at states held) set ≡ true → next ≡ drawn_by start played held + 1

  pub counts_same : (held : Option Piece) → Counts held (drawn_by start (played + 1) held)
  counts_same held set within has = omega (arith, so_far.drawn_fits held set within has)

  counts_exchange : (piece first : Piece) → Counts (Some piece) (drawn_by start (played + 1) (Some first))
  counts_exchange piece first set within has = omega (arith, so_far.drawn_fits (Some piece) set within has)

  pub counts_first : (first : Piece) → Counts None (drawn_by start played (Some first))
  counts_first first set within has = omega (arith, so_far.drawn_fits None set within has)

  -- what has a set after a draw had one before it
  fits_after : (held next : Option Piece) (draw : Option Draw) (piece : Piece) (after : Family) → IsDrawn draw piece (family_at states held) after
      → count_held held ≤ count_held next → (set : ℕ) → set < 128 → has_set after set ≡ true → count_held start ≤ played + 1 + count_held next
  fits_after held next draw piece after drawn more set within has = search (rules, moves-back)

  -- where hold is avoided
  pub next_avoided : (piece : Piece) (held : Option Piece) (after : Family) → IsDrawn (in_progress elements (drawn_by start played held)) piece (family_at states held) after
      → IsNextFamily elements Avoided start states played piece held after
  next_avoided piece held after drawn = record {
    came = λ queue rest. record {
      held_before = held;
      queue_before = piece ∷ queue;
      way = plain;
      rest = rest-back elements (drawn_by start played held) (drawn_by start (played + 1) held) piece (family_at states held) after drawn (counts_same held) queue rest;
    };
    goes = λ queue came. goes queue came.held_before came.queue_before came.way came.rest;
    roomy = roomy-on elements (drawn_by start played held) (drawn_by start (played + 1) held) piece (family_at states held) after drawn (counts_same held) (so_far.roomy held);
    drawn_fits = fits_after held held (in_progress elements (drawn_by start played held)) piece after drawn (omega arith);
  }
    where
      same_way : {hold : Hold} {before : List Piece} {held_before : Option Piece} {piece : Piece} {queue : List Piece} {held : Option Piece}
          → hold ≡ Avoided → Way hold before held_before piece queue held → (before ≡ piece ∷ queue) × (held_before ≡ held)
      same_way avoided h = search rules

      goes : (queue : List Piece) (held_before : Option Piece) (before : List Piece) → Way Avoided before held_before piece queue held
          → IsRemainder elements (drawn_by start played held_before) (family_at states held_before) before → IsRemainder elements (drawn_by start (played + 1) held) after queue
      goes queue held_before before way rest = search (rules, same_way, rest-on, counts_same)

  -- the ways that leave nothing held
  NoneWay : List Piece → Option Piece → Piece → List Piece → Type 0
  NoneWay before held_before piece queue = ((before ≡ piece ∷ queue) × (held_before ≡ None)) ⊎ ((before ≡ []) × (held_before ≡ Some piece) × (queue ≡ []))

  none_way : {hold : Hold} {before : List Piece} {held_before : Option Piece} {piece : Piece} {queue : List Piece} {held : Option Piece}
      → held ≡ None → Way hold before held_before piece queue held → NoneWay before held_before piece queue
  unfolding NoneWay
  none_way empty h = search rules

  -- nothing is held, and the queue is not used up where a piece was held
  pub next_none_more : (piece : Piece) (after : Family) (draw : Draw) → in_progress elements (drawn_by start played (Some piece)) ≡ Some draw
      → IsDrawn (in_progress elements (drawn_by start played None)) piece (family_at states None) after
      → IsNextFamily elements Allowed start states played piece None after
  unfolding NoneWay
  next_none_more piece after draw is drawn = record {
    came = λ queue rest. record {
      held_before = None;
      queue_before = piece ∷ queue;
      way = plain;
      rest = rest-back elements (drawn_by start played None) (drawn_by start (played + 1) None) piece (family_at states None) after drawn (counts_same None) queue rest;
    };
    goes = λ queue came. goes queue came.held_before came.queue_before (none_way refl came.way) came.rest;
    roomy = roomy-on elements (drawn_by start played None) (drawn_by start (played + 1) None) piece (family_at states None) after drawn (counts_same None) (so_far.roomy None);
    drawn_fits = fits_after None None (in_progress elements (drawn_by start played None)) piece after drawn (omega arith);
  }
    where
      goes : (queue : List Piece) (held_before : Option Piece) (before : List Piece) → NoneWay before held_before piece queue
          → IsRemainder elements (drawn_by start played held_before) (family_at states held_before) before → IsRemainder elements (drawn_by start (played + 1) None) after queue
      goes queue held_before before (inl same) rest = search (rules, rest-on, counts_same)
      goes queue held_before before (inr same) rest =
          let held_rest = subst (λ h. IsRemainder elements (drawn_by start played h) (family_at states h) before) same.1 rest in
          let ended = subst (λ q. IsRemainder elements (drawn_by start played (Some piece)) (family_at states (Some piece)) q) same.0 held_rest in
          let at = in_element elements (drawn_by start played (Some piece)) draw is in
          absurd (begins-none _ at.more at.later (subst (λ qs. Contains qs []) (at.now ended.drawn_set) ended.there))

  -- nothing is held, and the queue is used up where a piece was held
  pub next_none_last : (piece : Piece) (drawn_on both : Family) → in_progress elements (drawn_by start played (Some piece)) ≡ None
      → IsDrawn (in_progress elements (drawn_by start played None)) piece (family_at states None) drawn_on
      → IsUnion drawn_on (family_at states (Some piece)) both
      → IsNextFamily elements Allowed start states played piece None both
  unfolding NoneWay
  next_none_last piece drawn_on both is drawn union = record {
    came = λ queue rest. elim (union-from drawn_on (family_at states (Some piece)) both union rest) [
      | inl one ↦ record {
        held_before = None;
        queue_before = piece ∷ queue;
        way = plain;
        rest = rest-back elements (drawn_by start played None) (drawn_by start (played + 1) None) piece (family_at states None) drawn_on drawn (counts_same None) queue one;
      }
      | inr two ↦ came_last queue two
    ];
    goes = λ queue came. goes queue came.held_before came.queue_before (none_way refl came.way) came.rest;
    roomy = union-roomy elements (drawn_by start (played + 1) None) drawn_on (family_at states (Some piece)) both union
        (roomy-on elements (drawn_by start played None) (drawn_by start (played + 1) None) piece (family_at states None) drawn_on drawn (counts_same None) (so_far.roomy None))
        (subst (λ n. IsRoomy elements n (family_at states (Some piece))) (sym same_number) (so_far.roomy (Some piece)));
    drawn_fits = λ set within has. elim (union-cases drawn_on (family_at states (Some piece)) both union set within has) [
      | inl one ↦ fits_after None None (in_progress elements (drawn_by start played None)) piece drawn_on drawn (omega arith) set within one
      | inr two ↦ omega (arith, so_far.drawn_fits (Some piece) set within two)
    ];
  }
    where
      same_number : drawn_by start (played + 1) None ≡ drawn_by start played (Some piece)
      same_number = omega arith

      only : (set : ℕ) (queue : List Piece) → Contains (rests elements (drawn_by start played (Some piece)) set) queue → [] ≡ queue
      only set queue among = search (rules, Contains-cases, rests-done, Contains-none)

      came_last : (queue : List Piece) → IsRemainder elements (drawn_by start (played + 1) None) (family_at states (Some piece)) queue → CameBy elements Allowed start states played piece None queue
      came_last queue rest =
          let here = subst (λ n. IsRemainder elements n (family_at states (Some piece)) queue) same_number rest in
          let empty = only here.drawn_set queue here.there in
          search (rules, last)

      goes : (queue : List Piece) (held_before : Option Piece) (before : List Piece) → NoneWay before held_before piece queue
          → IsRemainder elements (drawn_by start played held_before) (family_at states held_before) before → IsRemainder elements (drawn_by start (played + 1) None) both queue
      goes queue held_before before h rest = search (rules, union-left, rest-on, counts_same, union-right, same_number)

  -- the ways that leave a piece held
  SomeWay : Hold → List Piece → Option Piece → Piece → List Piece → Piece → Type 0
  SomeWay hold before held_before piece queue first =
      ((before ≡ piece ∷ queue) × (held_before ≡ Some first))
      ⊎ (((before ≡ first ∷ queue) × (held_before ≡ Some piece)) ⊎ ((before ≡ first ∷ piece ∷ queue) × (held_before ≡ None)))

  some_way : {hold : Hold} {before : List Piece} {held_before : Option Piece} {piece : Piece} {queue : List Piece} {held : Option Piece} (first : Piece)
      → held ≡ Some first → Way hold before held_before piece queue held → SomeWay hold before held_before piece queue first
  unfolding SomeWay
  some_way first is h = search (rules, some_same)

  -- a piece is held
  pub next_some : (piece first : Piece) (held second exchanged all : Family) → IsHeldFamily elements Allowed start states played first held
      → IsDrawn (in_progress elements (drawn_by start played (Some first))) piece held second
      → IsDrawn (in_progress elements (drawn_by start played (Some piece))) first (family_at states (Some piece)) exchanged
      → IsUnion second exchanged all → IsNextFamily elements Allowed start states played piece (Some first) all
  unfolding SomeWay
  next_some piece first held second exchanged all is_held drawn_second drawn_exchanged union = record {
    came = λ queue rest. elim (union-from second exchanged all union rest) [
      | inl one ↦ by_follows queue (is_held.came (piece ∷ queue) (rest-back elements middle now piece held second drawn_second counts_second queue one))
      | inr other ↦ record {
        held_before = Some piece;
        queue_before = first ∷ queue;
        way = exchange;
        rest = rest-back elements (drawn_by start played (Some piece)) now first (family_at states (Some piece)) exchanged drawn_exchanged (counts_exchange piece first) queue other;
      }
    ];
    goes = λ queue came. goes queue came.held_before came.queue_before (some_way first refl came.way) came.rest;
    roomy = search (rules, union-roomy, roomy-on, counts_second, counts_exchange);
    drawn_fits = λ set within has. omega (arith, count_held-small start);
  }
    where
      now : ℕ
      now = drawn_by start (played + 1) (Some first)

      middle : ℕ
      middle = drawn_by start played (Some first)

      counts_second : (set : ℕ) → set < 128 → has_set held set ≡ true → drawn_by start (played + 1) (Some first) ≡ drawn_by start played (Some first) + 1
      counts_second set within has = omega (arith, count_held-small start)

      by_follows : (queue : List Piece) → FollowsHeld elements Allowed start states played first (piece ∷ queue) → CameBy elements Allowed start states played piece (Some first) queue
      by_follows queue h = search (rules, plain, first_hold)

      at : (held_before held : Option Piece) (before queue : List Piece) → before ≡ queue → held_before ≡ held
          → IsRemainder elements (drawn_by start played held_before) (family_at states held_before) before → IsRemainder elements (drawn_by start played held) (family_at states held) queue
      at held_before held before queue same_queue same_held rest = search rules

      goes_second : (queue : List Piece) → FollowsHeld elements Allowed start states played first (piece ∷ queue) → IsRemainder elements (drawn_by start (played + 1) (Some first)) all queue
      goes_second queue follows = search (rules, union-left, rest-on, counts_second)

      goes : (queue : List Piece) (held_before : Option Piece) (before : List Piece) → SomeWay Allowed before held_before piece queue first
          → IsRemainder elements (drawn_by start played held_before) (family_at states held_before) before → IsRemainder elements (drawn_by start (played + 1) (Some first)) all queue
      goes queue held_before before (inl same) rest = goes_second queue (inl (at held_before (Some first) before (piece ∷ queue) same.0 same.1 rest))
      goes queue held_before before (inr (inl same)) rest = search (rules, union-right, rest-on, counts_exchange, at)
      goes queue held_before before (inr (inr same)) rest = goes_second queue (inr (refl, at held_before None before (first ∷ piece ∷ queue) same.0 same.1 rest))

-- a draw that a call made, in the numbers of the states
pub drawn_by_draw : {draw other : Option Draw} {piece : Piece} {before after : Family} → IsDrawn draw piece before after → draw ≡ other → IsDrawn other piece before after
drawn_by_draw {piece = piece} {before = before} {after = after} drawn is = subst (λ d. IsDrawn d piece before after) is drawn

pub drawn_at : {draw other : Option Draw} {piece : Piece} {family before after : Family} → IsDrawn draw piece family after → draw ≡ other → family ≡ before → IsDrawn other piece before after
drawn_at {other = other} {piece = piece} {after = after} drawn is same = subst (λ f. IsDrawn other piece f after) same (drawn_by_draw drawn is)

-- the families of eight pairs of numbers
pub each_held : (P : Option Piece → Family → Type 0) (none i l o z t j s : Family)
    → P None none → P (Some I) i → P (Some L) l → P (Some O) o → P (Some Z) z → P (Some T) t → P (Some J) j → P (Some S) s → (held : Option Piece)
    → P held (family_at (none.low ∷ none.high ∷ i.low ∷ i.high ∷ l.low ∷ l.high ∷ o.low ∷ o.high ∷ z.low ∷ z.high ∷ t.low ∷ t.high ∷ j.low ∷ j.high ∷ s.low ∷ s.high ∷ []) held)
unfolding family_at
each_held P none i l o z t j s at_none at_i at_l at_o at_z at_t at_j at_s h17 = search rules
