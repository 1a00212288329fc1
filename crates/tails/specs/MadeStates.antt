-- How the states of a pattern are made.
use Rattle.std.specs.Prelude.{◌≡◌, ℕ, ◌+◌, ◌-◌, ◌*◌, ◌/◌, ◌%◌, ◌<◌, ◌≤◌, ◌⊎◌, Bool, true, false, List, Some, drop, length, replicate, slice_get, slice_index}
use Rattle.srs.specs.declared.piece.Piece.{Piece}
use Rattle.srs.specs.Piece.{piece_code}
use Rattle.queue_pattern.specs.declared.element.Element.{Element}
use Rattle.queue_pattern.specs.Queues.{falling_factor, is_in, others, pieces_in, queue_count}
use Rattle.queue_pattern.specs.Sound.{is_sound}
use Rattle.tails.specs.declared.states.State.{State}
use Rattle.tails.specs.States.{no_state, state_at, tails_of}
use Rattle.tails.specs.Trees.{first_number}

-- the state at which nothing is to be drawn
unfoldable pub end_state : ℕ → State
end_state behind = record { set = 0; draws = 0; behind = behind; count = 1; each = 0; next = replicate 8 0 }

-- each piece of a set is in another one
pub record IsPart (set whole : ℕ) : Type 0 where
  pub each : (piece : Piece) → is_in piece set ≡ true → is_in piece whole ≡ true

-- a state of the same element, with a piece less
pub record IsWithout (index set : ℕ) (piece : Piece) (number : ℕ) : Type 0 where
  pub rest : ℕ
  pub number_is : number ≡ index * 128 + rest
  pub within : rest < 128
  pub pieces : pieces_in rest ≡ others piece (pieces_in set)

-- the number of the state after a piece, which is the element's last or not
pub record IsAfter (elements : List Element) (index set : ℕ) (last : Bool) (piece : Piece) (number : ℕ) : Type 0 where
  pub ended : last ≡ true → number ≡ first_number elements (index + 1)
  pub goes_on : last ≡ false → IsWithout index set piece number

-- the numbers of the states after all pieces
pub record AreAfter (elements : List Element) (index set : ℕ) (last : Bool) (next : List ℕ) : Type 0 where
  pub size : length next ≡ 8
  pub each : (piece : Piece) → IsAfter elements index set last piece (slice_index next (piece_code piece))

-- how many tails there are where so many are to be drawn of some pieces
unfoldable pub tail_count : ℕ → ℕ → List Element → ℕ
tail_count pieces draws elements = falling_factor pieces draws * queue_count elements

-- the state at which this set is left of an element's pieces
pub record IsMade (elements : List Element) (index set : ℕ) (element : Element) (state : State) : Type 0 where
  pub set_is : state.set ≡ set
  pub behind_is : state.behind ≡ index + 1
  pub part : IsPart set element.set
  pub draws_are : state.draws + length (pieces_in element.set) ≡ element.chosen + length (pieces_in set)
  pub some : 0 < state.draws
  pub some_pieces : 0 < length (pieces_in set)
  pub count_is : state.count ≡ tail_count (length (pieces_in set)) state.draws (drop (index + 1) elements)
  pub each_is : state.each ≡ tail_count (length (pieces_in set) - 1) (state.draws - 1) (drop (index + 1) elements)
  pub few : state.count ≤ 10000000
  pub last : Bool
  pub last_is : last ≡ true → state.draws ≡ 1
  pub not_last : last ≡ false → 1 < state.draws
  pub after : AreAfter elements index set last state.next

-- it is that state where there is one, and else no state
pub record IsMadeAt (elements : List Element) (index set : ℕ) (element : Element) (state : State) : Type 0 where
  pub either : IsMade elements index set element state ⊎ (state ≡ no_state)
  pub made : IsPart set element.set → length (pieces_in element.set) - length (pieces_in set) < element.chosen
      → IsMade elements index set element state

-- the state with a number
pub record IsEntry (elements : List Element) (number : ℕ) (state : State) : Type 0 where
  pub element : Element
  pub there : slice_get elements (number / 128) ≡ Some element
  pub sound : is_sound element ≡ true
  pub is : IsMadeAt elements (number / 128) (number % 128) element state

-- so many states
pub record AreEntries (elements : List Element) (states : List State) (count : ℕ) : Type 0 where
  pub size : length states ≡ count
  pub each : (number : ℕ) → number < count → IsEntry elements number (state_at states number)

-- the state with a number has these tails, and counts them
pub record LeadsTo (elements : List Element) (states : List State) (number : ℕ) (left : List (List Piece)) : Type 0 where
  pub within : number < length states
  pub tails_are : tails_of elements (state_at states number) ≡ left
  pub counted : (state_at states number).count ≡ length left
