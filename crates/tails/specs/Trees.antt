-- What the states of a tree stand for.
use Rattle.std.specs.Prelude.{◌≡◌, ℕ, ◌+◌, ◌-◌, ◌*◌, ◌<◌, ◌≤◌, true, List, [], ◌∷◌, drop, length, slice_index}
use Rattle.srs.specs.declared.piece.Piece.{Piece}
use Rattle.srs.specs.Piece.{piece_code}
use Rattle.queue_pattern.specs.declared.element.Element.{Element}
use Rattle.queue_pattern.specs.Queues.{is_in, others, pieces_in, queue_len, tails}
use Rattle.tails.specs.declared.states.State.{State}
use Rattle.tails.specs.States.{state_at, tails_of}

-- After this piece comes the state with the number that is noted, whose tails are those that begin with the piece.
pub record IsStep (elements : List Element) (states : List State) (state : State) (piece : Piece) : Type 0 where
  pub within : slice_index state.next (piece_code piece) < length states
  pub tails_are : tails_of elements (state_at states (slice_index state.next (piece_code piece)))
      ≡ tails (others piece (pieces_in state.set)) (state.draws - 1) (drop state.behind elements)
  pub counted : (state_at states (slice_index state.next (piece_code piece))).count ≡ state.each

-- A state with tails has as many as are counted, and equally many begin with each piece that may be drawn. No tail is
-- longer than a queue.
pub record IsState (elements : List Element) (states : List State) (state : State) : Type 0 where
  pub size : length state.next ≡ 8
  pub few : state.count ≤ 10000000
  pub counted : 0 < state.count → state.count ≡ length (tails_of elements state)
  pub short : 0 < state.count → state.draws + queue_len (drop state.behind elements) ≤ queue_len elements
  pub ended : 0 < state.count → state.draws ≡ 0 → drop state.behind elements ≡ []
  pub shared : 0 < state.count → 0 < state.draws → state.count ≡ length (pieces_in state.set) * state.each
  pub steps : (piece : Piece) → 0 < state.count → 0 < state.draws → is_in piece state.set ≡ true
      → IsStep elements states state piece

-- each state is one
pub record AreStates (elements : List Element) (states : List State) : Type 0 where
  pub few : length states ≤ 3072
  pub each : (number : ℕ) → number < length states → IsState elements states (state_at states number)

-- the pieces of the first element, or none
unfoldable pub first_set : List Element → ℕ
first_set [] = 0
first_set (element ∷ elements) = element.set

-- the number of the state at which no piece of the element with this index, or of those behind it, is drawn
unfoldable pub first_number : List Element → ℕ → ℕ
first_number elements index = index * 128 + first_set (drop index elements)
