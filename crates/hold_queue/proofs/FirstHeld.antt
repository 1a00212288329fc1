-- Where a piece is left, the first piece may be held from the start on: the same is permitted.
use Rattle.std.proofs.Common.{◌≡◌, ℕ, ◌+◌, ◌<◌, ◌≤◌, true, Option, Some, None, List, [], ◌∷◌, length, Contains, ap, ◌∙◌, sym, subst, refl, inl, inr, rules}
use Rattle.std.specs.Cmp.Derive.{one_truth}
use Rattle.srs.specs.declared.piece.Piece.{Piece}
use Rattle.queue_pattern.specs.declared.element.Element.{Element}
use Rattle.hold_queue.specs.declared.family.Draw.{Draw}
use Rattle.hold_queue.specs.declared.family.Family.{Family}
use Rattle.hold_queue.specs.declared.hold.Hold.{Hold}
use Rattle.hold_queue.specs.declared.hold.Hold.TheVariants.{Allowed}
use Rattle.hold_queue.specs.AtHand.{count_held}
use Rattle.hold_queue.specs.Family.{has_set}
use Rattle.hold_queue.specs.Permits.{Permits}
use Rattle.hold_queue.specs.States.{in_progress, drawn_by, family_at, states_permit, IsRemainder, IsRoomy, IsHeldFamily, AreStatesAfter}
use Rattle.hold_queue.proofs.AtHandLemmas.{permits-held}
use Rattle.hold_queue.proofs.DrawnRests.{begins-none}
use Rattle.hold_queue.proofs.FamilyBits.{has_set-empty}
use Rattle.hold_queue.proofs.FollowLemmas.{states_permit-from, states_permit-to}
use Rattle.hold_queue.proofs.HoldingLemmas.{IsNone}
use Rattle.hold_queue.proofs.PermitsTest.{permits-decides}
use Rattle.hold_queue.proofs.RestLemmas.{in_element}
use Rattle.hold_queue.proofs.StepLemmas.{count_held-small}

to_hand : (piece : Piece) (queue pieces : List Piece) → Permits Allowed (piece ∷ queue) None pieces → Permits Allowed queue (Some piece) pieces
to_hand piece queue pieces permitted =
    (permits-decides Allowed queue (Some piece) pieces).0
    (sym (permits-held piece queue pieces) ∙ (permits-decides Allowed (piece ∷ queue) None pieces).1 permitted)

from_hand : (piece : Piece) (queue pieces : List Piece) → Permits Allowed queue (Some piece) pieces → Permits Allowed (piece ∷ queue) None pieces
from_hand piece queue pieces permitted =
    (permits-decides Allowed (piece ∷ queue) None pieces).0
    (permits-held piece queue pieces ∙ (permits-decides Allowed queue (Some piece) pieces).1 permitted)

module _ (elements : List Element) (start : Option Piece) (states held_states : List ℕ) (played : ℕ) (draw : Draw)
    (more : in_progress elements (drawn_by start played None) ≡ Some draw) (none : IsNone (family_at held_states None))
    (at : (piece : Piece) → IsHeldFamily elements Allowed start states played piece (family_at held_states (Some piece))) where
  empty_handed : {A : Type 0} (queue : List Piece) → IsRemainder elements (drawn_by start played None) (family_at held_states None) queue → A
  empty_handed queue rest = let lacks = none rest.drawn_set rest.within in let has = rest.has in cc

  onto : (pieces : List Piece) (held : Option Piece) (queue : List Piece) → IsRemainder elements (drawn_by start played held) (family_at states held) queue
      → Permits Allowed queue held pieces → states_permit elements Allowed start held_states played pieces ≡ true
  onto pieces (Some first) queue rest permitted = search (rules, states_permit-to)
  onto pieces None [] rest permitted =
      let left = in_element elements (drawn_by start played None) draw more in
      absurd (begins-none _ left.more left.later (subst (λ qs. Contains qs []) (left.now rest.drawn_set) rest.there))
  onto pieces None (first ∷ queue) rest permitted =
      states_permit-to elements Allowed start held_states played pieces
      (record { held = Some first; queue = queue; rest = (at first).goes queue (inr (refl, rest)); permitted = to_hand first queue pieces permitted })

  back : (pieces : List Piece) (held : Option Piece) (queue : List Piece) → IsRemainder elements (drawn_by start played held) (family_at held_states held) queue
      → Permits Allowed queue held pieces → states_permit elements Allowed start states played pieces ≡ true
  back pieces None queue rest permitted = empty_handed queue rest
  back pieces (Some first) queue rest permitted = elim ((at first).came queue rest) [
    | inl same ↦ states_permit-to elements Allowed start states played pieces (record { held = Some first; queue = queue; rest = same; permitted = permitted })
    | inr two ↦
        search (rules, states_permit-to, from_hand)
  ]

  same_permitted : (pieces : List Piece) → states_permit elements Allowed start states played pieces ≡ states_permit elements Allowed start held_states played pieces
  same_permitted pieces =
      one_truth _ _
      (λ h. let is = states_permit-from elements Allowed start states played pieces h in onto pieces is.held is.queue is.rest is.permitted)
      (λ h. let is = states_permit-from elements Allowed start held_states played pieces h in back pieces is.held is.queue is.rest is.permitted)

  some_left : (held : Option Piece) → IsRoomy elements (drawn_by start played held) (family_at held_states held)
  some_left None = record { each = λ set within has. let lacks = none set within in cc (lacks, has) }
  some_left (Some piece) = (at piece).roomy

  fits : (held : Option Piece) (set : ℕ) → set < 128 → has_set (family_at held_states held) set ≡ true → count_held start ≤ played + count_held held
  fits held set within has = search (rules, count_held-small)

-- the states where the first piece is held stand for the same played pieces
pub follows-held : (elements : List Element) (start : Option Piece) (states held_states : List ℕ) (played : List Piece) (draw : Draw)
    → in_progress elements (drawn_by start (length played) None) ≡ Some draw → IsNone (family_at held_states None)
    → ((piece : Piece) → IsHeldFamily elements Allowed start states (length played) piece (family_at held_states (Some piece)))
    → AreStatesAfter elements Allowed start states played → AreStatesAfter elements Allowed start held_states played
follows-held elements start states held_states played draw more none at so_far =
    search (rules, same_permitted, some_left, fits)

-- the family of each piece that may be held, and any family for none
abbrev pub HeldAt : List Element → Hold → Option Piece → List ℕ → ℕ → Option Piece → Family → Type 0
HeldAt elements hold start states played None family = Unit {0}
HeldAt elements hold start states played (Some piece) family = IsHeldFamily elements hold start states played piece family

-- the family without sets has none
pub empty-none : (family : Family) → family ≡ record { low = 0; high = 0 } → IsNone family
empty-none family is = λ set within. ap (λ f. has_set f set) is ∙ has_set-empty set
