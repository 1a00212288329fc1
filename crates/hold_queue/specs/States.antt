-- What the states of a queue set stand for: the queues that may follow, by what is held and which pieces of the element
-- in progress are drawn.
use Rattle.std.specs.Prelude.{Contains, ◌≡◌, ◌⊎◌, ℕ, ◌+◌, ◌-◌, ◌*◌, ◌<◌, ◌≤◌, Bool, true, not, ◌&&◌, ◌||◌, ◌==◌, nat_lt, if◌then◌else◌, Option, Some, None, List, [], ◌∷◌, ◌++◌, filter, length, slice_index}
use Rattle.std.specs.List.{list_any}
use Rattle.srs.specs.declared.piece.Piece.{Piece}
use Rattle.srs.specs.Piece.{all_pieces, piece_code}
use Rattle.queue_pattern.specs.declared.element.Element.{Element}
use Rattle.queue_pattern.specs.Queues.{is_in, pieces_in, queues, tails}
use Rattle.hold_queue.specs.declared.hold.Hold.{Hold}
use Rattle.hold_queue.specs.declared.hold.Hold.TheVariants.{Allowed}
use Rattle.hold_queue.specs.declared.family.Family.{Family}
use Rattle.hold_queue.specs.declared.family.Draw.{Draw}
use Rattle.hold_queue.specs.declared.states.Draws.{Draws}
use Rattle.hold_queue.specs.declared.states.States.{States}
use Rattle.hold_queue.specs.Family.{has_set, any_below}
use Rattle.hold_queue.specs.AtHand.{count_held}
use Rattle.hold_queue.specs.Permits.{Way, some_permits}

-- what the next piece is drawn from, after so many drawn pieces
unfoldable pub in_progress : List Element → ℕ → Option Draw
in_progress [] drawn = None
in_progress (element ∷ elements) drawn =
    if nat_lt drawn element.chosen then Some (record { element = element; is_last = drawn + 1 == element.chosen })
    else in_progress elements (drawn - element.chosen)

-- the pieces of a set that are not drawn
unfoldable pub undrawn : ℕ → ℕ → List Piece
undrawn set drawn_set = filter (λ piece. not (is_in piece drawn_set)) (pieces_in set)

-- what is left of the queues after so many drawn pieces, where those of the element in progress are this set
unfoldable pub rests : List Element → ℕ → ℕ → List (List Piece)
rests [] drawn drawn_set = [] ∷ []
rests (element ∷ elements) drawn drawn_set =
    if nat_lt drawn element.chosen then tails (undrawn element.set drawn_set) (element.chosen - drawn) elements
    else rests elements (drawn - element.chosen) drawn_set

-- how many pieces are drawn from the queue after so many are played: each was played, or is held and was not at the
-- start
abbrev pub drawn_by : Option Piece → ℕ → Option Piece → ℕ
drawn_by start played held = played + count_held held - count_held start

-- 0 for nothing, else the code of what is held
abbrev pub held_code : Option Piece → ℕ
held_code None = 0
held_code (Some piece) = piece_code piece

-- the family of drawn sets that go with what is held
unfoldable pub family_at : List ℕ → Option Piece → Family
family_at states held =
    record { low = slice_index states (2 * held_code held); high = slice_index states (2 * held_code held + 1) }

-- whether nothing or some piece passes a test
abbrev pub any_held : (Option Piece → Bool) → Bool
any_held test = test None || list_any (λ piece. test (Some piece)) all_pieces

-- one of the queues that may follow from a set of a family
pub record IsRemainder (elements : List Element) (drawn : ℕ) (family : Family) (queue : List Piece) : Type 0 where
  pub drawn_set : ℕ
  pub within : drawn_set < 128
  pub has : has_set family drawn_set ≡ true
  pub there : Contains (rests elements drawn drawn_set) queue

-- some queue may follow from each set of a family
pub record IsRoomy (elements : List Element) (drawn : ℕ) (family : Family) : Type 0 where
  pub each : (set : ℕ) → set < 128 → has_set family set ≡ true → 0 < length (rests elements drawn set)

-- a way to play a piece that leaves this queue and held piece, from one of the queues that may follow in some state
pub record CameBy (elements : List Element) (hold : Hold) (start : Option Piece) (states : List ℕ) (played : ℕ)
    (piece : Piece) (held : Option Piece) (queue : List Piece) : Type 0 where
  pub held_before : Option Piece
  pub queue_before : List Piece
  pub way : Way hold queue_before held_before piece queue held
  pub rest : IsRemainder elements (drawn_by start played held_before) (family_at states held_before) queue_before

-- the family that goes with what is held after one more piece is played
pub record IsNextFamily (elements : List Element) (hold : Hold) (start : Option Piece) (states : List ℕ)
    (played : ℕ) (piece : Piece) (held : Option Piece) (family : Family) : Type 0 where
  pub came : (queue : List Piece) → IsRemainder elements (drawn_by start (played + 1) held) family queue
      → CameBy elements hold start states played piece held queue
  pub goes : (queue : List Piece) → CameBy elements hold start states played piece held queue
      → IsRemainder elements (drawn_by start (played + 1) held) family queue
  pub roomy : IsRoomy elements (drawn_by start (played + 1) held) family
  pub drawn_fits : (set : ℕ) → set < 128 → has_set family set ≡ true → count_held start ≤ played + 1 + count_held held

-- a queue that may follow where this piece is held before the next one is drawn: it is held, or hold is allowed and it
-- is drawn where nothing is held
abbrev pub FollowsHeld : List Element → Hold → Option Piece → List ℕ → ℕ → Piece → List Piece → Type 0
FollowsHeld elements hold start states played first queue =
    IsRemainder elements (drawn_by start played (Some first)) (family_at states (Some first)) queue
    ⊎ ((hold ≡ Allowed) × IsRemainder elements (drawn_by start played None) (family_at states None) (first ∷ queue))

-- the family of drawn sets with which this piece is held then
pub record IsHeldFamily (elements : List Element) (hold : Hold) (start : Option Piece) (states : List ℕ)
    (played : ℕ) (first : Piece) (family : Family) : Type 0 where
  pub came : (queue : List Piece) → IsRemainder elements (drawn_by start played (Some first)) family queue
      → FollowsHeld elements hold start states played first queue
  pub goes : (queue : List Piece) → FollowsHeld elements hold start states played first queue
      → IsRemainder elements (drawn_by start played (Some first)) family queue
  pub roomy : IsRoomy elements (drawn_by start played (Some first)) family

-- the family of drawn sets with which one of these pieces is held then
pub record IsHolding (elements : List Element) (hold : Hold) (start : Option Piece) (states : List ℕ)
    (played : ℕ) (pieces : List Piece) (family : Family) : Type 0 where
  pub came : (other : Piece) (queue : List Piece)
      → IsRemainder elements (drawn_by start played (Some other)) family queue
      → (first : Piece) × FollowsHeld elements hold start states played first queue
  pub goes : (first : Piece) (queue : List Piece) → Contains pieces first
      → FollowsHeld elements hold start states played first queue
      → IsRemainder elements (drawn_by start played (Some first)) family queue
  pub roomy : (other : Piece) → IsRoomy elements (drawn_by start played (Some other)) family

-- some state leaves queues that permit the pieces
unfoldable pub states_permit : List Element → Hold → Option Piece → List ℕ → ℕ → List Piece → Bool
states_permit elements hold start states played pieces =
    any_held (λ held. any_below (λ set. has_set (family_at states held) set
    && some_permits hold (rests elements (drawn_by start played held) set) held pieces) 128)

-- what is known of states after so many played pieces
pub record Stands (elements : List Element) (start : Option Piece) (states : List ℕ) (played : ℕ) : Type 0 where
  pub roomy : (held : Option Piece) → IsRoomy elements (drawn_by start played held) (family_at states held)
  pub drawn_fits : (held : Option Piece) (set : ℕ) → set < 128 → has_set (family_at states held) set ≡ true
      → count_held start ≤ played + count_held held

-- what the next piece is drawn from after so many played pieces
pub record AreDue (elements : List Element) (start : Option Piece) (played : ℕ) (due : Draws) : Type 0 where
  pub empty_handed : due.empty_handed ≡ in_progress elements (drawn_by start played None)
  pub holding : (piece : Piece) → due.holding ≡ in_progress elements (drawn_by start played (Some piece))

-- one more piece leads from states to these: they permit what those before permit with the piece first
pub record LeadsTo (elements : List Element) (hold : Hold) (start : Option Piece) (states : List ℕ) (played : ℕ)
    (piece : Piece) (next : List ℕ) : Type 0 where
  pub permits_same : (pieces : List Piece) → states_permit elements hold start states played (piece ∷ pieces)
      ≡ states_permit elements hold start next (played + 1) pieces
  pub stands : Stands elements start next (played + 1)

-- for all queues that have these states after some played pieces
abbrev pub WhereverTheyStand : States → (List Element → Option Piece → ℕ → Type 0) → Type 0
WhereverTheyStand states Holds = (elements : List Element) (start : Option Piece) (played : ℕ)
    → Stands elements start states.words played → AreDue elements start played states.due → Holds elements start played

-- the states are those after these played pieces
pub record AreStatesAfter (elements : List Element) (hold : Hold) (start : Option Piece) (states : List ℕ)
    (played : List Piece) : Type 0 where
  pub permits_same : (pieces : List Piece)
      → some_permits hold (queues elements) start (played ++ pieces)
      ≡ states_permit elements hold start states (length played) pieces
  pub stands : Stands elements start states (length played)
