-- What a queue permits is what is taken from the pieces at hand.
use Rattle.std.proofs.Common.{◌≡◌, ◌⊎◌, ◌↔◌, ◌+◌, ◌≤◌, List, [], ◌∷◌, length, Option, Some, None, refl, sym, subst, arith, rules}
use Rattle.std.specs.Cmp.Derive.{one_truth}
use Rattle.srs.specs.declared.piece.Piece.{Piece}
use Rattle.hold_queue.specs.declared.hold.Hold.{Hold}
use Rattle.hold_queue.specs.declared.hold.Hold.TheVariants.{Allowed, Avoided}
use Rattle.hold_queue.specs.Permits.{Way, plain, exchange, first_hold, last, Permits, permits}
use Rattle.hold_queue.proofs.PermitsTest.{permits-decides}
use Rattle.hold_queue.specs.AtHand.{at_hand, Take, take_first, take_second, Takes}
use Rattle.hold_queue.specs.Hand.{TakesFirst, TakesSecond}

-- each way takes one of the pieces at hand, and leaves those at hand of what it leaves
take-of_plain : (hold : Hold) (piece : Piece) (queue : List Piece) (held : Option Piece) → Take hold (at_hand hold held (piece ∷ queue)) piece (at_hand hold held queue)
take-of_plain hold piece queue held = search (rules, take_first, take_second)

take-of_way : {hold : Hold} {queue : List Piece} {held : Option Piece} {piece : Piece} {rest : List Piece} {after : Option Piece}
    → Way hold queue held piece rest after → Take hold (at_hand hold held queue) piece (at_hand hold after rest)
take-of_way h = search (rules, take-of_plain, take_first, take_second)

pub takes-of_permits : (hold : Hold) (queue : List Piece) (held : Option Piece) (pieces : List Piece) → Permits hold queue held pieces → Takes hold (at_hand hold held queue) pieces
takes-of_permits hold queue held [] permitted = tt
takes-of_permits hold queue held (piece ∷ pieces) permitted =
    (at_hand hold permitted.1 permitted.0, take-of_way permitted.2, takes-of_permits hold permitted.0 permitted.1 pieces permitted.3)

-- a way that leaves these pieces at hand
abbrev WayTo : Hold → List Piece → Option Piece → Piece → List Piece → Type 0
WayTo hold queue held piece hand = (rest : List Piece) × (after : Option Piece) × Way hold queue held piece rest after × (hand ≡ at_hand hold after rest)

way-of_take : (hold : Hold) (queue : List Piece) (held : Option Piece) (piece : Piece) (hand : List Piece)
    → Take hold (at_hand hold held queue) piece hand → WayTo hold queue held piece hand
way-of_take Avoided [] held piece hand taken = elim taken [ ]
way-of_take Avoided (first ∷ queue) held piece hand take_first = (queue, held, plain, refl)
way-of_take Allowed [] None piece hand taken = elim taken [ ]
way-of_take Allowed [] (Some kept) piece hand take_first = ([], None, last, refl)
way-of_take Allowed (first ∷ queue) None piece hand take_first = (queue, None, plain, refl)
way-of_take Allowed (first ∷ second ∷ queue) None piece hand take_second = (queue, Some first, first_hold, refl)
way-of_take Allowed (first ∷ queue) (Some kept) piece hand take_first = (queue, Some first, exchange, refl)
way-of_take Allowed (first ∷ queue) (Some kept) piece hand take_second = (queue, Some kept, plain, refl)

pub permits-of_takes : (hold : Hold) (queue : List Piece) (held : Option Piece) (pieces : List Piece) → Takes hold (at_hand hold held queue) pieces → Permits hold queue held pieces
permits-of_takes hold queue held [] taken = tt
permits-of_takes hold queue held (piece ∷ pieces) taken =
    let way = way-of_take hold queue held piece taken.0 taken.1 in
    (way.0, way.1, way.2, permits-of_takes hold way.0 way.1 pieces (subst (λ hand. Takes hold hand pieces) way.3 taken.2))

pub permits-is_takes : (hold : Hold) (queue : List Piece) (held : Option Piece) (pieces : List Piece) → Permits hold queue held pieces ↔ Takes hold (at_hand hold held queue) pieces
permits-is_takes hold queue held pieces = (takes-of_permits hold queue held pieces, permits-of_takes hold queue held pieces)

-- a held piece is like a first piece of the queue
pub permits-held : (piece : Piece) (queue pieces : List Piece) → permits Allowed (piece ∷ queue) None pieces ≡ permits Allowed queue (Some piece) pieces
permits-held piece queue pieces = search (rules, permits-decides, one_truth, permits-of_takes, takes-of_permits)

-- ---- the first piece or the second

pub take-nothing : (hold : Hold) (piece : Piece) (rest : List Piece) → Take hold [] piece rest → ⊥
take-nothing hold piece rest taken = elim taken [ ]

pub take-cases : (hold : Hold) (pieces : List Piece) (piece : Piece) (rest : List Piece) → Take hold pieces piece rest → TakesFirst pieces piece rest ⊎ ((hold ≡ Allowed) × TakesSecond pieces piece rest)
take-cases hold pieces piece rest taken = search rules

pub take-of_first : (hold : Hold) (pieces : List Piece) (piece : Piece) (rest : List Piece) → TakesFirst pieces piece rest → Take hold pieces piece rest
take-of_first hold pieces piece rest first = subst (λ l. Take hold l piece rest) (sym first) take_first

pub take-of_second : (hold : Hold) (pieces : List Piece) (piece : Piece) (rest : List Piece) → hold ≡ Allowed → TakesSecond pieces piece rest → Take hold pieces piece rest
take-of_second hold pieces piece rest allowed second = search (rules, take_second)

-- no more pieces are taken than are at hand
take-length : {hold : Hold} {pieces : List Piece} {piece : Piece} {rest : List Piece} → Take hold pieces piece rest → length pieces ≡ length rest + 1
take-length h = search rules

pub takes-length : (hold : Hold) (hand pieces : List Piece) → Takes hold hand pieces → length pieces ≤ length hand
takes-length hold hand [] taken = omega arith
takes-length hold hand (piece ∷ pieces) taken = omega (arith, take-length taken.1, takes-length hold taken.0 pieces taken.2)
