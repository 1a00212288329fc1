-- Which piece may come next, without the states after it: a piece is held before the next one is drawn, or none is.
use Rattle.std.proofs.Common.{◌≡◌, ℕ, ◌+◌, ◌<◌, true, false, Option, Some, None, List, [], ◌∷◌, length, Contains, refl, sym, subst, inl, inr, ◌⊎◌, arith, rules}
use Rattle.std.proofs.lemmas.Bool.{cases_Bool}
use Rattle.srs.specs.declared.piece.Piece.{Piece}
use Rattle.srs.specs.declared.piece.Piece.TheVariants.{I, L, O, Z, T, J, S}
use Rattle.srs.specs.Piece.{all_pieces}
use Rattle.srs.proofs.CallerLemmas.{Contains-cases, Contains-none}
use Rattle.queue_pattern.specs.declared.element.Element.{Element}
use Rattle.hold_queue.specs.declared.family.Family.{Family}
use Rattle.hold_queue.specs.declared.hold.Hold.{Hold}
use Rattle.hold_queue.specs.declared.hold.Hold.TheVariants.{Allowed, Avoided}
use Rattle.hold_queue.specs.Family.{has_set, any_below, IsDrawn}
use Rattle.hold_queue.specs.Permits.{Way, plain, exchange, first_hold, last}
use Rattle.hold_queue.specs.States.{in_progress, drawn_by, family_at, IsRemainder, IsRoomy, CameBy, FollowsHeld, IsHeldFamily, IsHolding, Stands, states_permit}
use Rattle.hold_queue.proofs.DrawLemmas.{any_below-from, any_below-to}
use Rattle.hold_queue.proofs.DrawnRests.{rest-on, rest-back, roomy-on, Contains-piece}
use Rattle.hold_queue.proofs.FollowLemmas.{states_permit-from, states_permit-to}
use Rattle.hold_queue.proofs.StepLemmas.{IsUnion, counts_first, union-from, union-left, union-right, union-roomy}

-- a family that isn't without sets has one
pub some-set : (family : Family) → (((set : ℕ) → set < 128 → has_set family set ≡ false) → ⊥) → (set : ℕ) × (set < 128) × (has_set family set ≡ true)
some-set family some = elim (cases_Bool (any_below (has_set family) 128)) [
  | inl there ↦ any_below-from (has_set family) 128 there
  | inr none ↦ absurd (some (λ set within. elim (cases_Bool (has_set family set)) [
    | inl has ↦ cc (any_below-to (has_set family) 128 set within has, none)
    | inr lacks ↦ lacks
  ]))
]

some-queue : (qs : List (List Piece)) → 0 < length qs → (queue : List Piece) × Contains qs queue
some-queue [] some = absurd (omega arith)
some-queue (queue ∷ qs) some = (queue, (0, omega arith, refl))

-- a queue that may follow from a set of a roomy family
roomy-queue : (elements : List Element) (drawn : ℕ) (family : Family) → IsRoomy elements drawn family → (set : ℕ) → set < 128 → has_set family set ≡ true
    → (queue : List Piece) × IsRemainder elements drawn family queue
roomy-queue elements drawn family roomy set within has = search (rules, some-queue)

module _ (elements : List Element) (start : Option Piece) (states : List ℕ) (played : ℕ) (so_far : Stands elements start states played) where
  -- ---- the family with which a piece is held

  pub held-avoided : (first : Piece) → IsHeldFamily elements Avoided start states played first (family_at states (Some first))
  held-avoided first = search rules

  pub held-allowed : (first : Piece) (drawn both : Family) → IsDrawn (in_progress elements (drawn_by start played None)) first (family_at states None) drawn
      → IsUnion (family_at states (Some first)) drawn both → IsHeldFamily elements Allowed start states played first both
  held-allowed first drawn both is_drawn union = record {
    came = λ queue rest. elim (union-from (family_at states (Some first)) drawn both union rest) [
      | inl held ↦ inl held
      | inr two ↦ inr (refl, rest-back elements (drawn_by start played None) (drawn_by start played (Some first)) first (family_at states None) drawn is_drawn (counts_first elements start states played so_far first) queue two)
    ];
    goes = λ queue follows. onto queue follows;
    roomy = search (rules, union-roomy, roomy-on, counts_first);
  }
    where
      onto : (queue : List Piece) → FollowsHeld elements Allowed start states played first queue → IsRemainder elements (drawn_by start played (Some first)) both queue
      onto queue h = search (rules, union-left, union-right, rest-on, counts_first)

-- ---- the family with which some piece is held

module _ (elements : List Element) (hold : Hold) (start : Option Piece) (states : List ℕ) (played : ℕ) where
  abbrev Held : Piece → Family → Type 0
  Held first family = IsHeldFamily elements hold start states played first family

  abbrev Holding : List Piece → Family → Type 0
  Holding pieces family = IsHolding elements hold start states played pieces family

  holding-one : (first : Piece) (family : Family) → Held first family → Holding (first ∷ []) family
  holding-one first family held = record {
    came = λ other queue rest. (first, held.came queue rest);
    goes = λ other queue among follows. at other queue (Contains-cases first [] other among) follows;
    roomy = λ other. held.roomy;
  }
    where
      at : (other : Piece) (queue : List Piece) → (first ≡ other) ⊎ Contains [] other → FollowsHeld elements hold start states played other queue
          → IsRemainder elements (drawn_by start played (Some other)) family queue
      at other queue h follows = search (rules, Contains-none)

  holding-more : (pieces : List Piece) (first : Piece) (family more both : Family) → Holding pieces family → Held first more → IsUnion family more both → Holding (first ∷ pieces) both
  holding-more pieces first family more both so_far held union = record {
    came = λ other queue rest. elim (union-from family more both union rest) [
      | inl before ↦ so_far.came other queue before
      | inr new ↦ (first, held.came queue new)
    ];
    goes = λ other queue among follows. at other queue (Contains-cases first pieces other among) follows;
    roomy = λ other. union-roomy elements (drawn_by start played (Some other)) family more both union (so_far.roomy other) held.roomy;
  }
    where
      at : (other : Piece) (queue : List Piece) → (first ≡ other) ⊎ Contains pieces other → FollowsHeld elements hold start states played other queue
          → IsRemainder elements (drawn_by start played (Some other)) both queue
      at other queue (inl same) follows = union-right family more both union (held.goes queue (subst (λ p. FollowsHeld elements hold start states played p queue) (sym same) follows))
      at other queue (inr there) follows = union-left family more both union (so_far.goes other queue there follows)

  -- all pieces, whatever the order in which they come
  holding-all : (family : Family) → Holding (S ∷ J ∷ T ∷ Z ∷ O ∷ L ∷ I ∷ []) family → Holding all_pieces family
  holding-all family holding = record {
    came = holding.came;
    goes = λ first queue among. holding.goes first queue (each first);
    roomy = holding.roomy;
  }
    where
      each : (first : Piece) → Contains (S ∷ J ∷ T ∷ Z ∷ O ∷ L ∷ I ∷ []) first
      each I = (6, omega arith, refl)
      each L = (5, omega arith, refl)
      each O = (4, omega arith, refl)
      each Z = (3, omega arith, refl)
      each T = (2, omega arith, refl)
      each J = (1, omega arith, refl)
      each S = (0, omega arith, refl)

  pub holding-seven : (i l o z t j s il ilo four five six all : Family) → Held I i → Held L l → Held O o → Held Z z → Held T t → Held J j → Held S s
      → IsUnion i l il → IsUnion il o ilo → IsUnion ilo z four → IsUnion four t five → IsUnion five j six → IsUnion six s all → Holding all_pieces all
  holding-seven i l o z t j s il ilo four five six all at_i at_l at_o at_z at_t at_j at_s u_l u_o u_z u_t u_j u_s =
      holding-all all
      (holding-more (J ∷ T ∷ Z ∷ O ∷ L ∷ I ∷ []) S six s all
      (holding-more (T ∷ Z ∷ O ∷ L ∷ I ∷ []) J five j six
      (holding-more (Z ∷ O ∷ L ∷ I ∷ []) T four t five
      (holding-more (O ∷ L ∷ I ∷ []) Z ilo z four
      (holding-more (L ∷ I ∷ []) O il o ilo
      (holding-more (I ∷ []) L i l il (holding-one I i at_i) at_l u_l) at_o u_o) at_z u_z) at_t u_t) at_j u_j) at_s u_s)

-- ---- which piece may come next

-- a way to play this piece next
pub record Comes (elements : List Element) (hold : Hold) (start : Option Piece) (states : List ℕ) (played : ℕ) (piece : Piece) : Type 0 where
  pub held : Option Piece
  pub queue : List Piece
  pub came : CameBy elements hold start states played piece held queue

-- a family has no set
abbrev pub IsNone : Family → Type 0
IsNone family = (set : ℕ) → set < 128 → has_set family set ≡ false

module _ (elements : List Element) (hold : Hold) (start : Option Piece) (states : List ℕ) (played : ℕ) (so_far : Stands elements start states played) (piece : Piece) where
  -- it is drawn where nothing is held
  pub comes-plain : (after : Family) → IsDrawn (in_progress elements (drawn_by start played None)) piece (family_at states None) after
      → (IsNone after → ⊥) → Comes elements hold start states played piece
  comes-plain after drawn some =
      let set = some-set after some in
      let next : ℕ = drawn_by start played None + 1 in
      let one = roomy-queue elements next after (roomy-on elements (drawn_by start played None) next piece (family_at states None) after drawn (λ set within has. refl) (so_far.roomy None)) set.0 set.1 set.2 in
      record {
        held = None;
        queue = one.0;
        came = record {
          held_before = None;
          queue_before = piece ∷ one.0;
          way = plain;
          rest = rest-back elements (drawn_by start played None) next piece (family_at states None) after drawn (λ set within has. refl) one.0 one.1;
        };
      }

  -- it is drawn where a piece is held
  pub comes-second : (holding after : Family) → IsHolding elements hold start states played all_pieces holding
      → IsDrawn (in_progress elements (drawn_by start played (Some piece))) piece holding after → (IsNone after → ⊥) → Comes elements hold start states played piece
  comes-second holding after held drawn some =
      let set = some-set after some in
      let now : ℕ = drawn_by start played (Some piece) in
      let one = roomy-queue elements (now + 1) after (roomy-on elements now (now + 1) piece holding after drawn (λ set within has. refl) (held.roomy piece)) set.0 set.1 set.2 in
      let from = held.came piece (piece ∷ one.0) (rest-back elements now (now + 1) piece holding after drawn (λ set within has. refl) one.0 one.1) in
      by_way from.0 one.0 from.1
    where
      by_way : (first : Piece) (queue : List Piece) → FollowsHeld elements hold start states played first (piece ∷ queue) → Comes elements hold start states played piece
      by_way first queue (inl rest) = record { held = Some first; queue = queue; came = record { held_before = Some first; queue_before = piece ∷ queue; way = plain; rest = rest } }
      by_way first queue (inr two) = record {
        held = Some first;
        queue = queue;
        came = search (rules, first_hold);
      }

  -- it is held
  pub comes-held : hold ≡ Allowed → (IsNone (family_at states (Some piece)) → ⊥) → Comes elements hold start states played piece
  comes-held allowed some =
      let set = some-set (family_at states (Some piece)) some in
      let one = roomy-queue elements (drawn_by start played (Some piece)) (family_at states (Some piece)) (so_far.roomy (Some piece)) set.0 set.1 set.2 in
      from one.0 one.1
    where
      from : (queue : List Piece) → IsRemainder elements (drawn_by start played (Some piece)) (family_at states (Some piece)) queue → Comes elements hold start states played piece
      from [] rest = search (rules, last)
      from (first ∷ queue) rest = record {
        held = Some first;
        queue = queue;
        came = record { held_before = Some piece; queue_before = first ∷ queue; way = subst (λ h. Way h (first ∷ queue) (Some piece) piece queue (Some first)) (sym allowed) exchange; rest = rest };
      }

  -- what a way to play the piece shows
  data Shows : Type 0 where
    shows_plain : (queue : List Piece) → IsRemainder elements (drawn_by start played None) (family_at states None) (piece ∷ queue) → Shows
    shows_second : (first : Piece) (queue : List Piece) → FollowsHeld elements hold start states played first (piece ∷ queue) → Shows
    shows_held : hold ≡ Allowed → (queue : List Piece) → IsRemainder elements (drawn_by start played (Some piece)) (family_at states (Some piece)) queue → Shows

  shows : {by : Hold} {before : List Piece} {held_before : Option Piece} {played_piece : Piece} {queue : List Piece} {held : Option Piece}
      → by ≡ hold → played_piece ≡ piece → Way by before held_before played_piece queue held
      → IsRemainder elements (drawn_by start played held_before) (family_at states held_before) before → Shows
  shows by is (plain {queue = queue} {held = None}) rest =
      shows_plain queue (subst (λ p. IsRemainder elements (drawn_by start played None) (family_at states None) (p ∷ queue)) is rest)
  shows by is (plain {queue = queue} {held = Some first}) rest =
      shows_second first queue (inl (subst (λ p. IsRemainder elements (drawn_by start played (Some first)) (family_at states (Some first)) (p ∷ queue)) is rest))
  shows by is (exchange {first = first} {queue = queue}) rest =
      shows_held (sym by) (first ∷ queue) (subst (λ p. IsRemainder elements (drawn_by start played (Some p)) (family_at states (Some p)) (first ∷ queue)) is rest)
  shows by is (first_hold {first = first} {queue = queue}) rest =
      shows_second first queue (inr (sym by, subst (λ p. IsRemainder elements (drawn_by start played None) (family_at states None) (first ∷ p ∷ queue)) is rest))
  shows by is last rest =
      shows_held (sym by) [] (subst (λ p. IsRemainder elements (drawn_by start played (Some p)) (family_at states (Some p)) []) is rest)

  has-one : {drawn : ℕ} {queue : List Piece} (family : Family) → IsRemainder elements drawn family queue → IsNone family → ⊥
  has-one family rest none = let lacks = none rest.drawn_set rest.within in cc (rest.has, lacks)

  -- and if none of the three is so, there is no way
  pub comes-none : (drawn holding second : Family) → IsDrawn (in_progress elements (drawn_by start played None)) piece (family_at states None) drawn
      → IsHolding elements hold start states played all_pieces holding → IsDrawn (in_progress elements (drawn_by start played (Some piece))) piece holding second
      → IsNone drawn → IsNone second → (hold ≡ Allowed → IsNone (family_at states (Some piece))) → Comes elements hold start states played piece → ⊥
  comes-none drawn holding second is_drawn held is_second none_drawn none_second none_held comes = at (shows refl refl comes.came.way comes.came.rest)
    where
      at : Shows → ⊥
      at (shows_plain queue rest) =
          has-one drawn (rest-on elements (drawn_by start played None) (drawn_by start played None + 1) piece (family_at states None) drawn is_drawn (λ set within has. refl) queue rest) none_drawn
      at (shows_second first queue follows) =
          has-one second (rest-on elements (drawn_by start played (Some piece)) (drawn_by start played (Some piece) + 1) piece holding second is_second (λ set within has. refl) queue
          (held.goes first (piece ∷ queue) (Contains-piece first) follows)) none_second
      at (shows_held allowed queue rest) = has-one (family_at states (Some piece)) rest (none_held allowed)

-- a piece may be played exactly where it comes in some way
module _ (elements : List Element) (hold : Hold) (start : Option Piece) (states : List ℕ) (played : ℕ) (piece : Piece) where
  pub permitted-comes : Comes elements hold start states played piece → states_permit elements hold start states played (piece ∷ []) ≡ true
  permitted-comes comes = search (rules, states_permit-to)

  pub refused-none : (Comes elements hold start states played piece → ⊥) → states_permit elements hold start states played (piece ∷ []) ≡ false
  refused-none none = elim (cases_Bool (states_permit elements hold start states played (piece ∷ []))) [
    | inl permitted ↦
        let is = states_permit-from elements hold start states played (piece ∷ []) permitted in
        search rules
    | inr refused ↦ refused
  ]
